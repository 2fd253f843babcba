use Rattle.std.proofs.Common.{arith, ◌+◌, length, ◌<◌}
use Rattle.sm_lp.proofs.PivotSteps.{turned_start, turned_more, turned_end}
use Rattle.sm_lp.proofs.pivot.write_row.Goals as goal

pub loop-j-init : goal.loop-j-init
loop-j-init c = turned_start c.args.cells.items c.args.quotients.now c.args.start c.args.column

pub loop-j-preserved : goal.loop-j-preserved
loop-j-preserved c =
    let i = c.loop-j.invariant in
    let long = i.long in
    let inside : c.args.start + c.loop-j.j < length c.loop-j.cells.items = omega (arith, c.args.cells.ok.0) in
    turned_more c.args.cells.items c.loop-j.cells.items c.args.quotients.now c.args.start c.args.column c.loop-j.j c.own_entry.result inside c.own_entry.ensures.here c.own_entry.ensures.other i

pub returns : goal.returns
returns c = turned_end c.args.cells.items c.loop-j.cells.items c.args.quotients.now c.args.start c.args.column c.loop-j.j (omega arith) (omega arith) c.loop-j.invariant
