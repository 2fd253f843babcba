use Rattle.std.proofs.Common.{◌≤◌, ◌+◌, ◌*◌, ◌^◌, ◌↔◌, unsigned_abs, drop, map}
use Rattle.sm_kinds.specs.Choices.{AddUpTo}
use Rattle.sm_kinds.specs.Packing.{item_pick}
use Rattle.sm_kinds.proofs.packing.costs_add_up.Given as goal

-- the items to come add up to what is left just where all add up to the total
abbrev pub invariant-loop-item : goal.invariant-loop-item
invariant-loop-item g l = record {
  so_far : AddUpTo (g.V.Values.point l.a) (map item_pick (drop l.item-index l.items)) l.rest ↔ AddUpTo (g.V.Values.point l.a) (map item_pick l.items) l.total;
  bound : unsigned_abs l.rest ≤ 2 ^ 120 + l.item-index * 2 ^ 115;
}
