use Rattle.std.proofs.Common.{◌↔◌, drop}
use Rattle.sm_flat.specs.Assignments.{point_of}
use Rattle.sm_flat.specs.Goals.{IsBetterBy, IsBetter}
use Rattle.sm_rules.proofs.objectives.is_better.Given as goal

abbrev pub invariant-loop-level : goal.invariant-loop-level
invariant-loop-level l = IsBetterBy (drop l.level l.flat.goals) (point_of l.a) (point_of l.b) ↔ IsBetter l.flat (point_of l.a) (point_of l.b)
