use Rattle.std.proofs.Common.{refl, subst, List, map}
use Rattle.sm_syntax.specs.Trees as plain
use Rattle.sm_syntax.specs.Trees.{Aim, aim_of}
use Rattle.sm_meaning.specs.Trials.{GoesThrough}
use Rattle.sm_meaning.specs.Goals.{goal_tried}
use Rattle.sm_goals.specs.Goals.{AreGoalsOf}
use Rattle.sm_goals.proofs.goal.goals.Goals as goal

pub returns-in_ok-any_solution-in-Satisfy : goal.returns-in_ok-any_solution-in-Satisfy
returns-in_ok-any_solution-in-Satisfy c = rw c.in-Satisfy.is (refl, c.in_ok-any_solution-in-Satisfy.ensures c.args.scope.now c.in-Satisfy.place)

pub returns-in-Aims : goal.returns-in-Aims
returns-in-Aims c =
    let g : List Aim → plain.Goal = λ xs. plain.aims c.in-Aims.place (aim_of c.in-Aims.first) xs in
    rw c.in-Aims.is (subst (λ xs. GoesThrough (goal_tried c.args.scope.now (g (map aim_of xs))) c.args.visited.now c.aim_goals.new.visited (λ gs. AreGoalsOf c.args.scope.now (g (map aim_of xs)) gs.items) c.aim_goals.result) c.as_slice.ensures
    (c.aim_goals.ensures c.in-Aims.place))
