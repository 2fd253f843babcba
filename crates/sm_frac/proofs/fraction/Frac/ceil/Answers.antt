use Rattle.std.proofs.Common.{rules, arith, ◌≡◌, ◌∙◌, to_z, of_z}
use Rattle.std.specs.Prelude.{pos, ◌-ℤ◌}
use Rattle.std.proofs.lemmas.Int.{to_z-of_z, ints}
use Rattle.std.specs.Int.{w128}
use mir.Val.{SFits}
use Rattle.sm_frac.proofs.Nearest.{is_ceiling}
use Rattle.sm_frac.proofs.fraction.Frac.ceil.Goals as goal

pub returns : goal.returns
returns c =
    let b : SFits w128 c.args.self.d = search rules in
    let r : SFits w128 c.quotient_down.result = search rules in
    let whole : to_z w128 (of_z w128 c.quotient_down.result) ≡ c.quotient_down.result = to_z-of_z w128 c.quotient_down.result r in
    let turned : SFits w128 (pos 0 -ℤ to_z w128 (of_z w128 c.quotient_down.result)) = search rules in
    is_ceiling c.args.self _ c.quotient_down.result _ (omega (arith, ints)) (rw (to_z-of_z w128 c.args.self.d b) at c.quotient_down.ensures) (to_z-of_z w128 _ turned ∙ (omega (arith, ints)))
