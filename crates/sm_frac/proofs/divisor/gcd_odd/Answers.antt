use Rattle.std.proofs.Common.{ℕ, ◌%◌, ◌∙◌, ap, arith}
use Rattle.std.proofs.lemmas.Nat.Gcd.{IsGcd-from_zero}
use Rattle.sm_frac.proofs.BinaryGcd.{binary_step_to, lesser_odd, odd_part_beside}
use Rattle.sm_frac.proofs.divisor.gcd_odd.Goals as goal

pub loop-x-preserved : goal.loop-x-preserved
loop-x-preserved c = record {
  odd = ap (λ (n : ℕ). n % 2) c.min-x.ensures ∙ lesser_odd _ _ c.loop-x.invariant.odd c.odd_part-part.ensures.odd;
  divisors = λ g h. c.loop-x.invariant.divisors g (binary_step_to _ _ _ _ _ _ _ c.loop-x.invariant.odd c.odd_part-part.ensures.same c.min-x.ensures c.abs_diff-y.ensures h);
}

pub returns-then-y-eq0 : goal.returns-then-y-eq0
returns-then-y-eq0 c = c.loop-x.invariant.divisors _ (IsGcd-from_zero _ _ (omega arith))

pub returns-else-y-eq0 : goal.returns-else-y-eq0
returns-else-y-eq0 c = c.loop-x.invariant.divisors _ (odd_part_beside _ _ _ _ _ c.loop-x.invariant.odd c.odd_part.ensures.same c.gcd_beside-else-y-eq0.ensures)
