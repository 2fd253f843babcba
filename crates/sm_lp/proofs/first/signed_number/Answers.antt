use Rattle.std.proofs.Common.{arith, pos, ap, ◌∙◌}
use Rattle.std.proofs.lemmas.Int.{ints, to_z-of_z}
use Rattle.std.specs.Prelude.{neg_ℤ, ◌+ℤ◌, ℤ, ◌≡◌}
use mir.Val.{SFits}
use mir.Syntax.{w128}
use Rattle.sm_frac.specs.Rational.{whole_ℚ}
use Rattle.sm_lp.proofs.WritingLemmas.{turned_whole}
use Rattle.sm_lp.proofs.first.signed_number.Goals as goal

pub returns-then-turned : goal.returns-then-turned
returns-then-turned c =
    let f = c.ranges.number in
    let a : SFits w128 c.args.number = omega (arith, ints) in
    let g : SFits w128 (pos 0 +ℤ neg_ℤ c.args.number) = omega (arith, ints) in
    let e : pos 0 +ℤ neg_ℤ c.args.number ≡ neg_ℤ c.args.number = omega (arith, ints) in
    turned_whole c.args.turned c.args.number c.whole.result c.if-turned.true ((simp to_z-of_z at c.whole.ensures) ∙ ap (λ (z : ℤ). whole_ℚ z) e)
