use Rattle.std.proofs.Common.{◌≤◌, ◌+◌, ◌*◌, ◌^◌, ◌↔◌, unsigned_abs, drop}
use Rattle.sm_kinds.specs.Choices.{AddUpTo}
use Rattle.sm_kinds.proofs.choice.adds_up.Given as goal

abbrev pub invariant-loop-pick : goal.invariant-loop-pick
invariant-loop-pick g l = record {
  so_far : AddUpTo (g.V.Values.point l.a) (drop l.pick-index l.picks) l.rest ↔ AddUpTo (g.V.Values.point l.a) l.picks l.total;
  bound : unsigned_abs l.rest ≤ 2 ^ 120 + l.pick-index * 2 ^ 115;
}
