use Rattle.std.proofs.Common.{◌≡◌, ◌++◌, take, drop, map, length}
use Rattle.sm_step.specs.Verdicts.{parts_of}
use Rattle.sm_rules.specs.Floors.{raised}
use Rattle.sm_rules.specs.Objectives.{least_costs}
use Rattle.sm_rules.proofs.objectives.raise_floors.Given as goal

abbrev pub invariant-loop-level : goal.invariant-loop-level
invariant-loop-level l = record {
  length : length l.floors.items ≡ length l.goals;
  floors : map parts_of l.floors.items ≡ raised (map parts_of (take l.level l.fn.floors.items)) (least_costs (take l.level l.goals) l.store) ++ map parts_of (drop l.level l.fn.floors.items);
}
