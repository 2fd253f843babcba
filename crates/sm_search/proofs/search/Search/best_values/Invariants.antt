use Rattle.std.proofs.Common.{◌≡◌, take, map}
use Rattle.sm_flat.specs.Assignments.{point_of}
use Rattle.sm_step.specs.Verdicts.{parts_of}
use Rattle.sm_search.specs.Leaves.{whole_values}
use Rattle.sm_search.proofs.search.Search.best_values.Given as goal

abbrev pub invariant-loop-level : goal.invariant-loop-level
invariant-loop-level l = map parts_of l.values ≡ whole_values (take l.level l.flat.goals) (point_of l.best)
