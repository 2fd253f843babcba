use Rattle.std.proofs.Common.{◌≡◌, ◌≤◌, ◌^◌, ◌*◌, unsigned_abs, drop, ◌+ℤ◌}
use Rattle.sm_rules.specs.Objectives.{least_sum}
use Rattle.sm_rules.proofs.objectives.least_sum.Given as goal

abbrev pub invariant-loop-term : goal.invariant-loop-term
invariant-loop-term l = record {
  so_far : l.total +ℤ least_sum l.sense l.store (drop l.term-index l.terms) ≡ least_sum l.sense l.store l.terms;
  bound : unsigned_abs l.total ≤ l.term-index * 2 ^ 62;
}
