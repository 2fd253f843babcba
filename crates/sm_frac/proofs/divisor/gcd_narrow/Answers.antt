use Rattle.std.proofs.Common.{ℕ, ◌%◌, ◌∙◌, ap, arith}
use Rattle.std.proofs.lemmas.Nat.Gcd.{IsGcd-from_zero}
use Rattle.sm_frac.proofs.BinaryGcd.{binary_step_to, lesser_odd}
use Rattle.sm_frac.proofs.divisor.gcd_narrow.Goals as goal

pub loop-y-preserved : goal.loop-y-preserved
loop-y-preserved c = record {
  odd = ap (λ (n : ℕ). n % 2) c.min-x.ensures ∙ lesser_odd _ _ c.loop-y.invariant.odd c.odd_part_narrow-part.ensures.odd;
  divisors = λ g h. c.loop-y.invariant.divisors g (binary_step_to _ _ _ _ _ _ _ c.loop-y.invariant.odd c.odd_part_narrow-part.ensures.same c.min-x.ensures c.abs_diff-y.ensures h);
}

pub returns : goal.returns
returns c = c.loop-y.invariant.divisors _ (IsGcd-from_zero _ _ (omega arith))
