use Rattle.std.proofs.Common.{◌≡◌, ℕ, pos, ◌<◌}
use Rattle.sm_frac.specs.Rational.{◌*ℚ◌, fraction}
use Rattle.sm_certificate.specs.Totals.{total}
use Rattle.sm_certificate.specs.Program.{point_value}
use Rattle.sm_certificate.specs.Checking.{term_number, term_column}
use Rattle.sm_certificate.proofs.feasible.quick_sum.Given as goal

abbrev pub invariant-loop-i : goal.invariant-loop-i
invariant-loop-i l = (e : ℕ) → 0 < e → fraction l.sum e ≡ total l.i (λ k. term_number l.terms k *ℚ point_value l.point (pos e) (term_column l.terms k))
