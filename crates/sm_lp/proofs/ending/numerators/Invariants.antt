use Rattle.std.proofs.Common.{◌≡◌, ℕ, ◌<◌, length}
use Rattle.sm_certificate.specs.Numbers.{number_at}
use Rattle.sm_certificate.specs.Program.{point_value}
use Rattle.sm_lp.proofs.ending.numerators.Given as goal

abbrev pub invariant-loop-value : goal.invariant-loop-value
invariant-loop-value l = record {
  long : length l.point.items ≡ l.value-index;
  exact : (k : ℕ) → k < l.value-index → point_value l.point.items l.common k ≡ number_at l.values k;
}
