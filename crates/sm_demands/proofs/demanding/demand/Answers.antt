use Rattle.std.proofs.Common.{ap, sym, subst, List, map, ℕ, Result}
use Rattle.sm_syntax.specs.Expressions.{expression_of, literal_of}
use Rattle.sm_syntax.specs.Trees.{Constraint, conditional, chosen, cumulative, disjunctive, packing, constraint_of, choice_of, ctask_of, dtask_of, load_of, listing_of}
use Rattle.sm_syntax.specs.declared.tree.Lit.{Lit}
use Rattle.sm_syntax.specs.declared.tree.Choice.{Choice as ChoiceNode}
use Rattle.sm_syntax.specs.declared.tree.Ctask.{Ctask as CtaskNode}
use Rattle.sm_syntax.specs.declared.tree.Dtask.{Dtask as DtaskNode}
use Rattle.sm_syntax.specs.declared.tree.Load.{Load as LoadNode}
use Rattle.sm_meaning.specs.declared.refusal.ExpandRefusal.{ExpandRefusal}
use Rattle.sm_meaning.specs.Scopes.{Scope, Tuple, count_of}
use Rattle.sm_meaning.specs.Trials.{GoesThrough}
use Rattle.sm_meaning.specs.Demands.{demand_of}
use Rattle.sm_meaning.specs.DemandTrials.{demand_tried}
use Rattle.sm_drafts.specs.declared.draft.Draft.{Draft}
use Rattle.sm_drafts.specs.Drafts.{IsDraftOf}
use Rattle.sm_demands.proofs.demanding.demand.Goals as goal

-- what the call of an arm answers, of the constraint that it is called for
abbrev Goes : Scope → Tuple → ℕ → ℕ → Result Draft ExpandRefusal → Constraint → Type 0
Goes s b before after r x = GoesThrough (demand_tried x s b) before after (IsDraftOf (count_of s) (demand_of x s b)) r

pub returns-in-Linear : goal.returns-in-Linear
returns-in-Linear c =
    let w = c.in-Linear in
    subst (Goes c.args.scope.now c.args.cases.now.tuple c.args.visited.now c.row.new.visited c.row.result) (ap constraint_of (sym w.is)) (c.row.ensures w.place)

pub returns-in-Logic : goal.returns-in-Logic
returns-in-Logic c =
    let w = c.in-Logic in
    subst (Goes c.args.scope.now c.args.cases.now.tuple c.args.visited.now c.formula.new.visited c.formula.result) (ap constraint_of (sym w.is)) (c.formula.ensures w.place)

pub returns-in-When : goal.returns-in-When
returns-in-When c =
    let w = c.in-When in
    let W = Goes c.args.scope.now c.args.cases.now.tuple c.args.visited.now c.row_when.new.visited c.row_when.result in
    let made = λ (ls : List Lit). conditional w.place (literal_of w.first) (map literal_of ls) (expression_of w.left) w.cmp (expression_of w.right) in
    subst W (ap constraint_of (sym w.is)) (subst (λ (ls : List Lit). W (made ls)) c.as_slice-more.ensures (c.row_when.ensures w.place))

pub returns-in-Alldiff : goal.returns-in-Alldiff
returns-in-Alldiff c =
    let w = c.in-Alldiff in
    subst (Goes c.args.scope.now c.args.cases.now.tuple c.args.visited.now c.alldiff.new.visited c.alldiff.result) (ap constraint_of (sym w.is)) (c.alldiff.ensures w.place)

pub returns-in-Circuit : goal.returns-in-Circuit
returns-in-Circuit c =
    let w = c.in-Circuit in
    subst (Goes c.args.scope.now c.args.cases.now.tuple c.args.visited.now c.circuit.new.visited c.circuit.result) (ap constraint_of (sym w.is)) (c.circuit.ensures w.place)

pub returns-in-Element : goal.returns-in-Element
returns-in-Element c =
    let w = c.in-Element in
    subst (Goes c.args.scope.now c.args.cases.now.tuple c.args.visited.now c.element.new.visited c.element.result) (ap constraint_of (sym w.is)) (c.element.ensures w.place)

pub returns-in-Choices : goal.returns-in-Choices
returns-in-Choices c =
    let w = c.in-Choices in
    let W = Goes c.args.scope.now c.args.cases.now.tuple c.args.visited.now c.chosen.new.visited c.chosen.result in
    let made = λ (xs : List ChoiceNode). chosen w.place w.choosing (expression_of w.total) (map choice_of xs) in
    subst W (ap constraint_of (sym w.is)) (subst (λ (xs : List ChoiceNode). W (made xs)) c.as_slice-choices.ensures (c.chosen.ensures w.place))

pub returns-in-Cumulative : goal.returns-in-Cumulative
returns-in-Cumulative c =
    let w = c.in-Cumulative in
    let W = Goes c.args.scope.now c.args.cases.now.tuple c.args.visited.now c.cumulative.new.visited c.cumulative.result in
    let made = λ (xs : List CtaskNode). cumulative w.place (expression_of w.capacity) (map ctask_of xs) in
    subst W (ap constraint_of (sym w.is)) (subst (λ (xs : List CtaskNode). W (made xs)) c.as_slice.ensures (c.cumulative.ensures w.place))

pub returns-in-Disjunctive : goal.returns-in-Disjunctive
returns-in-Disjunctive c =
    let w = c.in-Disjunctive in
    let W = Goes c.args.scope.now c.args.cases.now.tuple c.args.visited.now c.disjunctive.new.visited c.disjunctive.result in
    let made = λ (xs : List DtaskNode). disjunctive w.place (dtask_of w.first) (map dtask_of xs) in
    subst W (ap constraint_of (sym w.is)) (subst (λ (xs : List DtaskNode). W (made xs)) c.as_slice-in-Disjunctive.ensures (c.disjunctive.ensures w.place))

pub returns-in-Packing : goal.returns-in-Packing
returns-in-Packing c =
    let w = c.in-Packing in
    let W = Goes c.args.scope.now c.args.cases.now.tuple c.args.visited.now c.packing.new.visited c.packing.result in
    let made = λ (xs : List LoadNode). packing w.place (expression_of w.cost) (listing_of w.capacities) (listing_of w.openings) (map load_of xs) in
    subst W (ap constraint_of (sym w.is)) (subst (λ (xs : List LoadNode). W (made xs)) c.as_slice-loads.ensures (c.packing.ensures w.place))
