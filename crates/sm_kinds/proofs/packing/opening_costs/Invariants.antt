use Rattle.std.proofs.Common.{◌≡◌, ◌≤◌, ◌^◌, ◌*◌, unsigned_abs, drop, ◌+ℤ◌}
use Rattle.sm_kinds.specs.Packing.{opening_costs}
use Rattle.sm_kinds.proofs.packing.opening_costs.Given as goal

abbrev pub invariant-loop-g : goal.invariant-loop-g
invariant-loop-g g l = record {
  so_far : l.total +ℤ opening_costs (g.V.Values.point l.a) l.items l.g (drop l.g l.opening) ≡ opening_costs (g.V.Values.point l.a) l.items 0 l.opening;
  bound : unsigned_abs l.total ≤ l.g * 2 ^ 31;
}
