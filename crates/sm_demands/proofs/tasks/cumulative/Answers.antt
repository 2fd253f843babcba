use Rattle.std.proofs.Common.{rules, ◌≡◌, ◌∙◌, FitsSigned, map}
use Rattle.std.specs.Int.{w64}
use Rattle.std.specs.List.{flat_map}
use Rattle.std.proofs.lemmas.Int.{to_z-of_z}
use Rattle.std.proofs.lemmas.Result.{err_from_is_err_and}
use Rattle.sm_syntax.specs.Expressions.{expression_of}
use Rattle.sm_syntax.specs.Trees.{ctask_of}
use Rattle.sm_meaning.specs.Cases.{number_of, amount_tried}
use Rattle.sm_meaning.specs.Demands.{ctasks_of}
use Rattle.sm_meaning.specs.DemandTrials.{ctask_tried}
use Rattle.sm_demands.proofs.Nodes.{behind_goes, behind_stops}
use Rattle.sm_demands.proofs.Makes.{ctasks_made, cumulative_same}
use Rattle.sm_demands.proofs.tasks.cumulative.Goals as goal

pub returns-in_err-push_all : goal.returns-in_err-push_all
returns-in_err-push_all c = λ place.
    let s = c.args.scope.now in
    let b = c.args.cases.now.tuple in
    let p = err_from_is_err_and c.from_residual-in_err-push_all.result c.from_residual-in_err-push_all.ensures.1 in
    rw (p.1, p.2) (behind_stops c.in_err-push_all.field-0.0 (amount_tried s (expression_of c.args.capacity.now) b) (ctask_tried s b) ctask_of c.args.tasks.now c.args.visited.now c.amount.new.visited c.in_ok-capacity.ensures.0
    c.in_err-push_all.ensures)

pub returns : goal.returns
returns c = λ place.
    let s = c.args.scope.now in
    let b = c.args.cases.now.tuple in
    let narrow : FitsSigned w64 c.in_ok-capacity.capacity = search rules in
    let same = to_z-of_z w64 c.in_ok-capacity.capacity narrow in
    let made : c.push_all.new.made.items ≡ flat_map (ctasks_of s b) (map ctask_of c.args.tasks.now) =
    ctasks_made s b c.args.tasks.now c.new-made.result.items c.push_all.new.made.items c.new-made.ensures.items c.in_ok-push_all.ensures.1 in (
      behind_goes (amount_tried s (expression_of c.args.capacity.now) b) (ctask_tried s b) ctask_of c.args.tasks.now c.args.visited.now c.amount.new.visited c.push_all.new.visited c.in_ok-capacity.ensures.0 c.in_ok-push_all.ensures.0,
      cumulative_same _ (number_of s (expression_of c.args.capacity.now) b) c.from_vec.result (flat_map (ctasks_of s b) (map ctask_of c.args.tasks.now)) (same ∙ c.in_ok-capacity.ensures.1) (c.from_vec.ensures ∙ made),
    )
