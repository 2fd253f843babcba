use Rattle.std.proofs.Common.{◌≤◌, ◌<◌, length}
use Rattle.sm_flat.specs.Assignments.{point_of}
use Rattle.sm_flat.specs.Goals.{no_goal}
use Rattle.sm_rules.proofs.Fractions.{ends_none, past_from_test}
use Rattle.sm_rules.proofs.objectives.ends_node.Goals as goal

pub returns-in_default : goal.returns-in_default
returns-in_default c =
    let floors = c.args.floors.now in
    let goals = c.args.flat.now.goals in
    let past : length floors ≤ c.loop-level.level = past_from_test c.loop-level.level (length floors) c.in_default.ensures.lookup.0 in
    let lt : c.loop-level.level < length goals = rw c.goals-level-end.ensures.value at c.loop-level-test.true in
    (λ t. absurd (cc), λ h. absurd (ends_none c.args.flat.now (point_of c.args.best.now) floors goals c.loop-level.level no_goal past lt (c.loop-level.invariant.1 h)))
