use Rattle.std.proofs.Common.{◌∙◌, ap, refl}
use Rattle.sm_frac.specs.Rational.{ℚ, ◌-ℚ◌, neg_ℚ}
use Rattle.sm_frac.specs.Frac.{value_of}
use Rattle.sm_frac.proofs.RationalRing.{zero-+ℚ}
use Rattle.sm_certificate.proofs.FineLemmas.{zero_minus_passes_not, value_of_zero}
use Rattle.sm_lp.proofs.pivot.turned.Goals as goal

pub unreachable-requires : goal.unreachable-requires
unreachable-requires c = zero_minus_passes_not c.whole.result c.args.number c.whole.ensures.0 c.whole.ensures.1 (c.in-Err.ensures.passed.0 refl)

pub returns : goal.returns
returns c = c.in-Ok.ensures.exact ∙ ap (λ (x : ℚ). x -ℚ value_of c.args.number) (value_of_zero c.whole.result c.whole.ensures.0) ∙ zero-+ℚ (neg_ℚ (value_of c.args.number))
