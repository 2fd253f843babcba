use Rattle.std.proofs.Common.{◌≡◌, ◌∙◌, sym, map}
use Rattle.std.specs.List.{flat_map}
use Rattle.std.proofs.lemmas.Result.{err_from_is_err_and}
use Rattle.sm_syntax.specs.Expressions.{expression_of}
use Rattle.sm_syntax.specs.Trees.{choice_of}
use Rattle.sm_meaning.specs.Cases.{variable_at, discrete_tried}
use Rattle.sm_meaning.specs.Demands.{picks_of}
use Rattle.sm_meaning.specs.DemandTrials.{choice_tried}
use Rattle.sm_demands.proofs.Nodes.{behind_goes, behind_stops}
use Rattle.sm_demands.proofs.Makes.{choices_made, chosen_same}
use Rattle.sm_demands.proofs.choices.chosen.Goals as goal

pub returns-in_err-push_all : goal.returns-in_err-push_all
returns-in_err-push_all c = λ place.
    let s = c.args.scope.now in
    let b = c.args.cases.now.tuple in
    let p = err_from_is_err_and c.from_residual-in_err-push_all.result c.from_residual-in_err-push_all.ensures.1 in
    rw (p.1, p.2) (behind_stops c.in_err-push_all.field-0.0 (discrete_tried s (expression_of c.args.total.now) b) (choice_tried s b) choice_of c.args.choices.now c.args.visited.now c.discrete.new.visited c.in_ok-z.ensures.0
    c.in_err-push_all.ensures)

pub returns : goal.returns
returns c = λ place.
    let s = c.args.scope.now in
    let b = c.args.cases.now.tuple in
    let made : c.push_all.new.made.items ≡ flat_map (picks_of s b) (map choice_of c.args.choices.now) =
    choices_made s b c.args.choices.now c.new-picks.result.items c.push_all.new.made.items c.new-picks.ensures.items c.in_ok-push_all.ensures.1 in
    let z = variable_at s (expression_of c.args.total.now) b in (
      behind_goes (discrete_tried s (expression_of c.args.total.now) b) (choice_tried s b) choice_of c.args.choices.now c.args.visited.now c.discrete.new.visited c.push_all.new.visited c.in_ok-z.ensures.0 c.in_ok-push_all.ensures.0,
      chosen_same c.args.choosing c.in_ok-z.z z c.from_vec.result (flat_map (picks_of s b) (map choice_of c.args.choices.now)) c.in_ok-z.ensures.1 (c.from_vec.ensures ∙ made) ∙ sym c.form_of.ensures,
    )
