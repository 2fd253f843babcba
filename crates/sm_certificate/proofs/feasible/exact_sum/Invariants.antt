use Rattle.std.proofs.Common.{◌≡◌}
use Rattle.sm_frac.specs.Rational.{◌*ℚ◌}
use Rattle.sm_frac.specs.Frac.{value_of}
use Rattle.sm_certificate.specs.Totals.{total}
use Rattle.sm_certificate.specs.Program.{point_value}
use Rattle.sm_certificate.specs.Checking.{term_number, term_column}
use Rattle.sm_certificate.proofs.feasible.exact_sum.Given as goal

abbrev pub invariant-loop-i : goal.invariant-loop-i
invariant-loop-i l = value_of l.sum ≡ total l.i (λ k. term_number l.terms k *ℚ point_value l.point l.denominator (term_column l.terms k))
