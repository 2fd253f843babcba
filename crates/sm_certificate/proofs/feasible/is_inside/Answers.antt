use Rattle.std.proofs.Common.{arith, refl, SFits, w64}
use Rattle.std.specs.Prelude.{◌<ℤ◌, ◌≤ℤ◌, ◌*ℤ◌}
use Rattle.std.proofs.lemmas.Int.{ints, to_z-of_z}
use Rattle.sm_certificate.proofs.PointLemmas.{inside_low, inside_yes, inside_high}
use Rattle.sm_certificate.proofs.feasible.is_inside.Goals as goal

pub returns-then-numerator-scaled : goal.returns-then-numerator-scaled
returns-then-numerator-scaled c =
    let n = c.ranges.numerator in
    let d = c.ranges.denominator in
    let low = c.requires.ends.least in
    let a : SFits w64 c.args.ends.now.0 = omega (arith, ints) in
    let is = simp to_z-of_z at c.scaled.ensures in
    let lt : c.args.numerator <ℤ (c.args.ends.now.0 *ℤ c.args.denominator) = omega (arith, ints) in
    (λ t. absurd (cc), λ i. absurd (inside_low c.args.ends.now c.args.numerator c.args.denominator c.requires.denominator lt i))

pub returns-then-numerator-scaled-2 : goal.returns-then-numerator-scaled-2
returns-then-numerator-scaled-2 c =
    let n = c.ranges.numerator in
    let d = c.ranges.denominator in
    let high = c.requires.ends.greatest in
    let b : SFits w64 c.args.ends.now.1 = omega (arith, ints) in
    let is = simp to_z-of_z at c.scaled-2.ensures in
    let lt : (c.args.ends.now.1 *ℤ c.args.denominator) <ℤ c.args.numerator = omega (arith, ints) in
    (λ t. absurd (cc), λ i. let ge = inside_high c.args.ends.now c.args.numerator c.args.denominator c.requires.denominator i in absurd (omega (arith, ints)))

pub returns : goal.returns
returns c =
    let n = c.ranges.numerator in
    let d = c.ranges.denominator in
    let low = c.requires.ends.least in
    let high = c.requires.ends.greatest in
    let a : SFits w64 c.args.ends.now.0 = omega (arith, ints) in
    let b : SFits w64 c.args.ends.now.1 = omega (arith, ints) in
    let is = simp to_z-of_z at c.scaled.ensures in
    let also = simp to_z-of_z at c.scaled-2.ensures in
    let le : (c.args.ends.now.0 *ℤ c.args.denominator) ≤ℤ c.args.numerator = omega (arith, ints) in
    let ge : c.args.numerator ≤ℤ (c.args.ends.now.1 *ℤ c.args.denominator) = omega (arith, ints) in
    (λ t. inside_yes c.args.ends.now c.args.numerator c.args.denominator c.requires.denominator le ge, λ i. refl)
