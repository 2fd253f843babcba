use Rattle.std.proofs.Common.{ℕ, ◌<◌, ◌^◌, pos, unsigned_abs}
use Rattle.std.specs.Prelude.{◌≤ℤ◌}
use Rattle.sm_frac.specs.Rational.{ℚ}
use Rattle.sm_frac.specs.declared.operation.Op.TheVariants.{Lcm}
use Rattle.sm_lp.specs.Steps.{IsLeastCommon, JoinsBy}
use Rattle.sm_certificate.specs.Fine.{IsFine}
use Rattle.sm_lp.specs.Ending.{denominator_at}
use Rattle.sm_lp.proofs.ending.common_denominator.Given as goal

abbrev pub invariant-loop-j : goal.invariant-loop-j
invariant-loop-j l = record {
  least : pos 1 ≤ℤ l.common;
  most : l.common ≤ℤ pos (2 ^ 52);
  common : IsLeastCommon l.j (denominator_at l.values) (unsigned_abs l.common);
  fine : (k m : ℕ) (x y : ℚ) → k < l.j → IsLeastCommon k (denominator_at l.values) m → JoinsBy m (denominator_at l.values k) x y → IsFine Lcm x y;
}
