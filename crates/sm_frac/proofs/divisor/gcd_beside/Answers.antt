use Rattle.std.proofs.Common.{ℕ, subst}
use Rattle.std.specs.Int.{IsGcd}
use Rattle.sm_frac.proofs.BinaryGcd.{remainder_beside}
use Rattle.sm_frac.proofs.divisor.gcd_beside.Goals.{then-other-le-NARROW, else-other-le-NARROW}
use Rattle.sm_frac.proofs.divisor.gcd_beside.Goals as goal

pub returns : goal.returns
returns c = elim c.if-other-le-NARROW.branch [
  | then-other-le-NARROW w ↦ subst (λ (m : ℕ). IsGcd c.args.odd m c.gcd_narrow.result) w.rest-is c.gcd_narrow.ensures
  | else-other-le-NARROW w ↦ remainder_beside _ _ _ (subst (λ (m : ℕ). IsGcd c.args.odd m c.gcd_narrow.result) w.rest-is c.gcd_narrow.ensures)
]
