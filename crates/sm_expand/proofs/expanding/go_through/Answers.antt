use Rattle.std.proofs.Common.{◌≡◌, ◌∙◌, sym, subst, map, ℕ}
use Rattle.std.proofs.lemmas.Result.{err_from_is_err_and}
use Rattle.sm_syntax.specs.Trees.{item_of, goal_of}
use Rattle.sm_meaning.specs.Scopes.{Scope}
use Rattle.sm_meaning.specs.Trials.{reached, IsStopped, ◌▸◌}
use Rattle.sm_meaning.specs.Expansions.{beginning, scope_of}
use Rattle.sm_meaning.specs.Goals.{goal_tried}
use Rattle.sm_meaning.specs.Models.{with_items, items_tried, benders_tried}
use Rattle.sm_meaning.proofs.Steps.{stops, goes_on, stops_later}
use Rattle.sm_goals.specs.Goals.{AreGoalsOf}
use Rattle.sm_expand.proofs.Whole.{made_of}
use Rattle.sm_expand.proofs.expanding.go_through.Goals as goal

pub returns-in_err-add_items : goal.returns-in_err-add_items
returns-in_err-add_items c =
    let items = map item_of c.as_slice.result.now in
    let p = err_from_is_err_and c.from_residual.result c.from_residual.ensures.1 in
    rw (sym c.as_slice.ensures, p.1, p.2) (λ tables h.
    let e = with_items items (beginning tables) in
    stops c.in_err-add_items.field-0.0 (items_tried items (beginning tables)) (goal_tried (scope_of e) (goal_of c.args.tree.now.goal) ▸ benders_tried e.posts 0 e.variables) 0 (c.in_err-add_items.ensures (beginning tables) h))

pub returns-in_err-goals : goal.returns-in_err-goals
returns-in_err-goals c =
    let items = map item_of c.as_slice.result.now in
    let p = err_from_is_err_and c.from_residual-in_err-goals.result c.from_residual-in_err-goals.ensures.1 in
    let r = c.in_err-goals.field-0.0 in
    rw (sym c.as_slice.ensures, p.1, p.2) (λ tables h.
    let e = with_items items (beginning tables) in
    let goes = c.in_ok-add_items.ensures (beginning tables) h in
    stops_later r (items_tried items (beginning tables)) (goal_tried (scope_of e) (goal_of c.args.tree.now.goal) ▸ benders_tried e.posts 0 e.variables) 0 c.add_items.new.visited goes.0
    (stops r (goal_tried (scope_of e) (goal_of c.args.tree.now.goal)) (benders_tried e.posts 0 e.variables) c.add_items.new.visited
    (subst (λ (s : Scope). IsStopped r (goal_tried s (goal_of c.args.tree.now.goal) c.add_items.new.visited)) goes.1.scope c.in_err-goals.ensures)))

pub returns-in-Err : goal.returns-in-Err
returns-in-Err c = rw (sym c.as_slice.ensures) (λ tables h.
    let items = map item_of c.as_slice.result.now in
    let e = with_items items (beginning tables) in
    let goes = c.in_ok-add_items.ensures (beginning tables) h in
    let goals = subst (λ (s : Scope). goal_tried s (goal_of c.args.tree.now.goal) c.add_items.new.visited ≡ reached c.goals.new.visited) goes.1.scope c.in_ok-goals.ensures.0 in
    let r = c.in-Err.refusal in
    stops_later r (items_tried items (beginning tables)) (goal_tried (scope_of e) (goal_of c.args.tree.now.goal) ▸ benders_tried e.posts 0 e.variables) 0 c.add_items.new.visited goes.0
    (stops_later r (goal_tried (scope_of e) (goal_of c.args.tree.now.goal)) (benders_tried e.posts 0 e.variables) c.add_items.new.visited c.goals.new.visited goals
    (c.in-Err.ensures e c.goals.new.visited goes.1)))

pub returns-in-Ok : goal.returns-in-Ok
returns-in-Ok c = rw (sym c.as_slice.ensures) (λ tables h.
    let items = map item_of c.as_slice.result.now in
    let e = with_items items (beginning tables) in
    let goes = c.in_ok-add_items.ensures (beginning tables) h in
    let goals = subst (λ (s : Scope). goal_tried s (goal_of c.args.tree.now.goal) c.add_items.new.visited ≡ reached c.goals.new.visited) goes.1.scope c.in_ok-goals.ensures.0 in
    let last = c.in-Ok.ensures e c.goals.new.visited goes.1 in
    let rest = goal_tried (scope_of e) (goal_of c.args.tree.now.goal) ▸ benders_tried e.posts 0 e.variables in (
      (
        c.goals.new.visited,
        goes_on (items_tried items (beginning tables)) rest 0 c.add_items.new.visited goes.0
            ∙ goes_on (goal_tried (scope_of e) (goal_of c.args.tree.now.goal)) (benders_tried e.posts 0 e.variables) c.add_items.new.visited c.goals.new.visited goals
            ∙ last.0,
      ),
      made_of c.args.tree.now.place items (goal_of c.args.tree.now.goal) tables c.add_items.new.made c.in_ok-goals.goals.items goes.1
          (subst (λ (s : Scope). AreGoalsOf s (goal_of c.args.tree.now.goal) c.in_ok-goals.goals.items) goes.1.scope c.in_ok-goals.ensures.1),
    ))

pub try_subproblems-requires : goal.try_subproblems-requires
try_subproblems-requires c =
    let some = c.requires in
    record { expansion = _; making = (c.in_ok-add_items.ensures some.expansion some.making).1 }
