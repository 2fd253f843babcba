use Rattle.std.proofs.Common.{◌≡◌, ◌≤◌, ◌^◌, ◌*◌, unsigned_abs, drop, ◌+ℤ◌}
use Rattle.sm_kinds.specs.Packing.{load_of}
use Rattle.sm_kinds.proofs.packing.load_of.Given as goal

abbrev pub invariant-loop-item : goal.invariant-loop-item
invariant-loop-item g l = record {
  so_far : l.load +ℤ load_of (g.V.Values.point l.a) l.group (drop l.item-index l.items) ≡ load_of (g.V.Values.point l.a) l.group l.items;
  bound : unsigned_abs l.load ≤ l.item-index * 2 ^ 31;
}
