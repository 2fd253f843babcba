use Rattle.std.proofs.Common.{arith, length, drop, ◌+◌, ap}
use Rattle.sm_certificate.specs.Slacks.{Half}
use Rattle.std.specs.Prelude.{List}
use Rattle.sm_certificate.proofs.SlackLemmas.{halves_count, drop_halves, all_counted}
use Rattle.sm_certificate.proofs.conditions.half_rows.Goals as goal

pub loop-row-preserved : goal.loop-row-preserved
loop-row-preserved c =
    let cut = ap (λ (hs : List Half). length hs) (drop_halves c.args.rows.now c.loop-row.row-index c.row-item.result c.loop-row-test.true c.row-item.is) in
    let more = halves_count c.row-item.result (drop (c.loop-row.row-index + 1) c.args.rows.now) in
    let so = c.loop-row.invariant in
    let is = c.in-Some.ensures in
    let two = c.halves_in.ensures.count in
    omega arith

pub returns : goal.returns
returns c =
    let none = all_counted c.args.rows.now c.loop-row.row-index c.loop-row-test.false in
    let so = c.loop-row.invariant in
    omega arith

pub returns-in_default : goal.returns-in_default
returns-in_default c =
    let cut = ap (λ (hs : List Half). length hs) (drop_halves c.args.rows.now c.loop-row.row-index c.row-item.result c.loop-row-test.true c.row-item.is) in
    let more = halves_count c.row-item.result (drop (c.loop-row.row-index + 1) c.args.rows.now) in
    let so = c.loop-row.invariant in
    let two = c.halves_in.ensures.count in
    let none = c.in_default.ensures in
    omega arith
