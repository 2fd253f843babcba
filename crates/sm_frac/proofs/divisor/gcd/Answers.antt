use Rattle.std.proofs.Common.{ℕ, ◌*◌, ◌^◌, subst, sym, arith}
use Rattle.std.specs.Int.{IsGcd}
use Rattle.sm_frac.proofs.BinaryGcd.{one_beside, doubled_both, divisor_fits}
use Rattle.sm_frac.proofs.divisor.gcd.Goals as goal

pub returns-then-b-eq1 : goal.returns-then-b-eq1
returns-then-b-eq1 c = one_beside _ _ c.if-b-eq1.either

pub returns-else-b-eq0 : goal.returns-else-b-eq0
returns-else-b-eq0 c =
    divisor_fits _ _ _ _ (omega arith) c.ranges.a.fits
    (subst (λ (m : ℕ). IsGcd c.args.a c.args.b (c.gcd_odd.result * 2 ^ m)) (sym c.min-twos.ensures)
    (doubled_both _ _ _ _ _ _ _ c.odd_part.ensures.odd c.odd_part-else-b-eq0.ensures.odd c.odd_part.ensures.same c.odd_part-else-b-eq0.ensures.same c.gcd_odd.ensures))
