use Rattle.std.proofs.Common.{◌↔◌, drop, map}
use Rattle.sm_flat.specs.Assignments.{point_of}
use Rattle.sm_step.specs.Verdicts.{parts_of}
use Rattle.sm_rules.specs.Floors.{EndsNode, numbers_of}
use Rattle.sm_rules.specs.Objectives.{level_of, levels}
use Rattle.sm_rules.proofs.objectives.ends_node.Given as goal

abbrev pub invariant-loop-level : goal.invariant-loop-level
invariant-loop-level l = EndsNode (numbers_of (map parts_of (drop l.level l.floors))) (map (level_of l.flat (point_of l.best)) (drop l.level l.flat.goals)) ↔ EndsNode (numbers_of (map parts_of l.floors)) (levels l.flat (point_of l.best))
