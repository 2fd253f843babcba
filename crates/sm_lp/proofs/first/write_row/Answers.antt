use Rattle.std.proofs.Common.{arith, pos, length, ◌<◌, ◌+◌, ◌≤◌, ◌^◌, unsigned_abs, get_or}
use Rattle.std.proofs.lemmas.Int.{ints, to_z-of_z}
use mir.Val.{SFits}
use mir.Syntax.{w64}
use Rattle.sm_lp.proofs.WritingLemmas.{written_start, written_more, written_end}
use Rattle.sm_lp.proofs.first.write_row.Goals as goal

pub loop-j-init : goal.loop-j-init
loop-j-init c = written_start c.args.cells.items c.args.start c.args.numbers.now c.args.turned

pub loop-j-preserved : goal.loop-j-preserved
loop-j-preserved c =
    let small : unsigned_abs (get_or c.args.numbers.now c.loop-j.j (pos 0)) ≤ 2 ^ 42 = c.requires.small c.loop-j.j (pos 0) c.loop-j-test.true in
    let fits : SFits w64 (get_or c.args.numbers.now c.loop-j.j (pos 0)) = omega (arith, ints) in
    let i = c.loop-j.invariant in
    let long = i.long in
    let inside : c.args.start + c.loop-j.j < length c.loop-j.cells.items = omega (arith, c.args.cells.ok.0) in
    written_more c.args.cells.items c.loop-j.cells.items c.args.start c.args.numbers.now c.args.turned c.loop-j.j c.signed_number.result inside (simp to_z-of_z at c.signed_number.ensures) i

pub returns : goal.returns
returns c =
    let f = c.ranges.constant in
    let i = c.loop-j.invariant in
    let long = i.long in
    let inside : c.args.start + length c.args.numbers.now < length c.loop-j.cells.items = omega (arith, c.args.cells.ok.0) in
    written_end c.args.cells.items c.loop-j.cells.items c.args.start c.args.numbers.now c.args.constant c.args.turned c.loop-j.j c.signed_constant.result (omega arith) inside (simp to_z-of_z at c.signed_constant.ensures) i
