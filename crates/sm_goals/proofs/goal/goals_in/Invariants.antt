use Rattle.std.proofs.Common.{◌≡◌, map}
use Rattle.sm_goals.specs.Goals.{goal_in}
use Rattle.sm_goals.proofs.goal.goals_in.Given as goal

abbrev pub invariant-loop-aimed : goal.invariant-loop-aimed
invariant-loop-aimed l = record {
  next : (goal.iterator-loop-aimed).can_next l.aimed-iterator;
  finite : (goal.iterator-loop-aimed).is_finite l.aimed-iterator;
  made : l.goals.items ≡ map goal_in l.yielded;
}
