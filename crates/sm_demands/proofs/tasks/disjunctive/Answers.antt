use Rattle.std.proofs.Common.{◌≡◌, ◌∙◌, ◌∷◌, ap, sym, List, map}
use Rattle.std.specs.List.{flat_map}
use Rattle.std.proofs.lemmas.Result.{err_from_is_err_and}
use Rattle.sm_kinds.specs.declared.tasks.Task.{Task}
use Rattle.sm_flat.specs.declared.form.Form.TheVariants as form
use Rattle.sm_syntax.specs.Trees.{dtask_of}
use Rattle.sm_meaning.specs.Demands.{dtasks_of}
use Rattle.sm_meaning.specs.DemandTrials.{dtask_tried}
use Rattle.sm_demands.proofs.Nodes.{behind_goes, behind_stops}
use Rattle.sm_demands.proofs.Makes.{dtasks_made}
use Rattle.sm_demands.proofs.tasks.disjunctive.Goals as goal

pub returns-in_err-push_all : goal.returns-in_err-push_all
returns-in_err-push_all c = λ place.
    let s = c.args.scope.now in
    let b = c.args.cases.now.tuple in
    let p = err_from_is_err_and c.from_residual-in_err-push_all.result c.from_residual-in_err-push_all.ensures.1 in
    rw (p.1, p.2) (behind_stops c.in_err-push_all.field-0.0 (dtask_tried s b (dtask_of c.args.first.now)) (dtask_tried s b) dtask_of c.args.more.now c.args.visited.now c.push_node.new.visited c.in_ok-push_node.ensures.0
    c.in_err-push_all.ensures)

pub returns : goal.returns
returns c = λ place.
    let s = c.args.scope.now in
    let b = c.args.cases.now.tuple in
    let made : c.push_all.new.made.items ≡ flat_map (dtasks_of s b) (map dtask_of (c.args.first.now ∷ c.args.more.now)) =
    dtasks_made s b c.args.first.now c.args.more.now c.new-made.result.items c.push_node.new.made.items c.push_all.new.made.items c.new-made.ensures.items c.in_ok-push_node.ensures.1 c.in_ok-push_all.ensures.1 in (
      behind_goes (dtask_tried s b (dtask_of c.args.first.now)) (dtask_tried s b) dtask_of c.args.more.now c.args.visited.now c.push_node.new.visited c.push_all.new.visited c.in_ok-push_node.ensures.0 c.in_ok-push_all.ensures.0,
      sym (ap (λ (ts : List Task). form.Disjunctive ts) (c.from_vec.ensures ∙ made)),
    )
