use Rattle.std.proofs.Common.{◌≡◌, take, map}
use Rattle.sm_step.specs.Verdicts.{parts_of}
use Rattle.sm_rules.specs.Objectives.{least_costs}
use Rattle.sm_rules.proofs.objectives.least_floors.Given as goal

abbrev pub invariant-loop-goal : goal.invariant-loop-goal
invariant-loop-goal l = map parts_of l.floors.items ≡ least_costs (take l.goal-index l.goals) l.store
