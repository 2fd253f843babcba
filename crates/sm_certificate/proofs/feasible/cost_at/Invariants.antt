use Rattle.std.proofs.Common.{◌≡◌}
use Rattle.sm_frac.specs.Rational.{◌*ℚ◌}
use Rattle.sm_frac.specs.Frac.{value_of}
use Rattle.sm_certificate.specs.Totals.{total}
use Rattle.sm_certificate.specs.Program.{cost, point_value}
use Rattle.sm_certificate.proofs.feasible.cost_at.Given as goal

abbrev pub invariant-loop-j : goal.invariant-loop-j
invariant-loop-j l = value_of l.cost ≡ total l.j (λ k. cost l.program k *ℚ point_value l.point l.denominator k)
