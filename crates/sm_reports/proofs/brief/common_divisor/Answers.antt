use Rattle.std.proofs.Common.{rules, ◌∙◌, ap, subst, ℕ, pos, arith, ◌<◌, ◌^◌}
use Rattle.std.specs.Prelude.{unsigned_abs}
use Rattle.std.specs.Int.{IsGcd}
use Rattle.std.proofs.lemmas.Int.{to_z-of_z, to_z_pos, ints}
use mir.Syntax.{w128}
use Rattle.sm_frac.proofs.FracLemmas.{gcd_above, gcd_small}
use Rattle.sm_reports.proofs.Divisors.{divisor_found}
use Rattle.sm_reports.proofs.brief.common_divisor.Goals as goal

pub overflow_cast-result : goal.overflow_cast-result
overflow_cast-result c =
    let f = c.ranges.n in let g = c.ranges.d in
    let e = simp to_z-of_z at c.unsigned_abs-2.ensures.value in
    let below : c.gcd.result < 2 ^ 127 = gcd_small c.unsigned_abs.result c.args.d c.unsigned_abs-2.result c.gcd.result c.requires g e c.gcd.ensures in
    search rules

pub returns-clause-value : goal.returns-clause-value
returns-clause-value c =
    let f = c.ranges.n in let g = c.ranges.d in
    let n = simp to_z-of_z at c.unsigned_abs.ensures.value in
    let d = simp to_z-of_z at c.unsigned_abs-2.ensures.value in
    let below : c.gcd.result < 2 ^ 127 = gcd_small c.unsigned_abs.result c.args.d c.unsigned_abs-2.result c.gcd.result c.requires g d c.gcd.ensures in
    let both = subst (λ (a : ℕ). IsGcd a c.unsigned_abs-2.result c.gcd.result) n c.gcd.ensures in
    to_z_pos w128 c.gcd.result below ∙ ap pos (divisor_found c.args.n c.args.d c.gcd.result c.requires (subst (λ (b : ℕ). IsGcd (unsigned_abs c.args.n) b c.gcd.result) d both))

pub returns-clause-above : goal.returns-clause-above
returns-clause-above c =
    let f = c.ranges.n in let g = c.ranges.d in
    let d = simp to_z-of_z at c.unsigned_abs-2.ensures.value in
    let below : c.gcd.result < 2 ^ 127 = gcd_small c.unsigned_abs.result c.args.d c.unsigned_abs-2.result c.gcd.result c.requires g d c.gcd.ensures in
    let above = gcd_above c.unsigned_abs.result c.args.d c.unsigned_abs-2.result c.gcd.result c.requires d c.gcd.ensures in
    let same = to_z_pos w128 c.gcd.result below in
    omega (arith, ints)
