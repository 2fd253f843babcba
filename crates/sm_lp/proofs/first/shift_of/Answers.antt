use Rattle.std.proofs.Common.{arith, pos, get_or, ◌≤◌, ◌^◌, unsigned_abs, to_z, rules}
use Rattle.std.proofs.lemmas.Int.{ints, to_z-of_z}
use mir.Val.{SFits}
use mir.Syntax.{w64, w128}
use Rattle.sm_lp.proofs.WritingLemmas.{shift_start, shift_more, shift_small, shift_end}
use Rattle.sm_lp.proofs.first.shift_of.Goals as goal

pub loop-j-init : goal.loop-j-init
loop-j-init c = shift_start c.args.numbers.now c.args.columns.now

pub loop-j-preserved : goal.loop-j-preserved
loop-j-preserved c =
    let j = c.loop-j.j in
    let small : unsigned_abs (get_or c.args.numbers.now j (pos 0)) ≤ 2 ^ 42 = c.requires.small j (pos 0) (omega arith) in
    let end : unsigned_abs (get_or c.args.columns.now j (pos 0, pos 0)).0 ≤ 2 ^ 31 = (c.requires.boxes j (pos 0, pos 0) c.loop-j-test.true).least in
    let a : SFits w64 (get_or c.args.numbers.now j (pos 0)) = omega (arith, ints) in
    let b : SFits w64 (get_or c.args.columns.now j (pos 0, pos 0)).0 = omega (arith, ints) in
    let r : SFits w128 c.with_product-shift.result = search rules in
    let is = simp to_z-of_z at c.with_product-shift.ensures in
    simp to_z-of_z (shift_more c.args.numbers.now c.args.columns.now j (to_z w128 c.loop-j.shift-bits) c.with_product-shift.result c.loop-j-test.true small end is c.loop-j.invariant)

pub returns-clause-sum : goal.returns-clause-sum
returns-clause-sum c = shift_end c.args.numbers.now c.args.columns.now c.loop-j.j (to_z w128 c.loop-j.shift-bits) (omega arith) c.loop-j.invariant

pub returns-clause-small : goal.returns-clause-small
returns-clause-small c = shift_small c.args.numbers.now c.args.columns.now c.loop-j.j (to_z w128 c.loop-j.shift-bits) c.requires.few c.loop-j.invariant
