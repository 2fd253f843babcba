use Rattle.std.proofs.Common.{◌↔◌, drop, map}
use Rattle.sm_flat.specs.Assignments.{point_of}
use Rattle.sm_flat.specs.Goals.{HasValuesBy, HasValues}
use Rattle.sm_step.specs.Verdicts.{parts_of}
use Rattle.sm_rules.proofs.objectives.has_values.Given as goal

abbrev pub invariant-loop-level : goal.invariant-loop-level
invariant-loop-level l = HasValuesBy (drop l.level l.flat.goals) (point_of l.a) (map parts_of (drop l.level l.values)) ↔ HasValues l.flat (point_of l.a) (map parts_of l.values)
