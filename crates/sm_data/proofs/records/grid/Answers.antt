use Rattle.std.proofs.Common.{[], get_or}
use Rattle.std.proofs.lemmas.Result.{err_from_is_err_and}
use Rattle.csv.specs.Records.{fields_of}
use Rattle.sm_data.specs.Numbers.{each, number_of}
use Rattle.sm_data.proofs.Each.{goes, fails, ends}
use Rattle.sm_data.proofs.Readings.{row_at, row_past, at_place}
use Rattle.sm_data.proofs.records.grid.Goals as goal

pub returns-in_err-numbers : goal.returns-in_err-numbers
returns-in_err-numbers c = λ rss h.
    let i = c.loop-row.row-index in
    let here = row_at fields_of c.args.rows.now rss i c.row-item.result h c.loop-row-test.true c.row-item.is in
    let x = get_or rss i [] in
    let p = err_from_is_err_and c.from_residual.result c.from_residual.ensures.1 in
    rw (p.1, p.2) (fails (each number_of) rss i x c.loop-row.grid c.in_err-numbers.field-0.0 here.within (at_place rss i [] x here.within) (c.loop-row.invariant rss h) (c.in_err-numbers.ensures x here.reads))

pub loop-row-preserved : goal.loop-row-preserved
loop-row-preserved c = λ rss h.
    let i = c.loop-row.row-index in
    let here = row_at fields_of c.args.rows.now rss i c.row-item.result h c.loop-row-test.true c.row-item.is in
    let x = get_or rss i [] in
    goes (each number_of) rss i x c.loop-row.grid c.push.new.self c.in_ok-numbers.field-0 here.within (at_place rss i [] x here.within) (c.loop-row.invariant rss h) (c.in_ok-numbers.ensures x here.reads) c.in_ok-push.ensures.ok

pub returns : goal.returns
returns c = λ rss h.
    ends (each number_of) rss c.loop-row.row-index c.loop-row.grid (row_past fields_of c.args.rows.now rss c.loop-row.row-index h c.loop-row-test.false) (c.loop-row.invariant rss h)
