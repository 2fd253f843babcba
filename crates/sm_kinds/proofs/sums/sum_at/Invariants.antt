use Rattle.std.proofs.Common.{◌≡◌, ◌≤◌, ◌^◌, ◌*◌, unsigned_abs, drop, ◌+ℤ◌}
use Rattle.sm_kinds.specs.Sums.{sum_at}
use Rattle.sm_kinds.proofs.sums.sum_at.Given as goal

abbrev pub invariant-loop-term : goal.invariant-loop-term
invariant-loop-term g l = record {
  so_far : l.total +ℤ sum_at (drop l.term-index l.terms) (g.V.Values.point l.a).numerator ≡ sum_at l.terms (g.V.Values.point l.a).numerator;
  bound : unsigned_abs l.total ≤ l.term-index * 2 ^ 114;
}
