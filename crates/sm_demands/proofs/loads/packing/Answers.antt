use Rattle.std.proofs.Common.{◌≡◌, ◌∙◌, ap, subst, ℕ, ℤ, List, length, map}
use Rattle.std.specs.List.{flat_map}
use Rattle.std.proofs.lemmas.Result.{err_from_is_err_and}
use Rattle.sm_syntax.specs.Expressions.{expression_of}
use Rattle.sm_syntax.specs.Trees.{listing_of, load_of}
use Rattle.sm_meaning.specs.Trials.{IsStopped, reached, each_tried}
use Rattle.sm_meaning.specs.Cases.{listed, listed_tried, number_of, variable_at, amount_tried, discrete_tried}
use Rattle.sm_meaning.specs.DemandTrials.{counted_list_tried, load_tried}
use Rattle.sm_demands.proofs.Nodes.{fourth_goes, fourth_stops}
use Rattle.sm_meaning.specs.Demands.{items_of}
use Rattle.sm_demands.proofs.Makes.{packing_same}
use Rattle.sm_demands.proofs.loads.packing.Goals as goal

pub returns-in_err-items : goal.returns-in_err-items
returns-in_err-items c = λ place.
    let s = c.args.scope.now in
    let b = c.args.cases.now.tuple in
    let loads = map load_of c.args.loads.now in
    let count = length (listed (number_of s) (listing_of c.args.capacities.now) s.names b) in
    let same : c.len.result ≡ count = c.len.ensures ∙ ap (λ (zs : List ℤ). length zs) c.in_ok-groups.ensures.1.0 in
    let p = err_from_is_err_and c.from_residual-in_err-items.result c.from_residual-in_err-items.ensures.1 in
    rw (p.1, p.2) (fourth_stops c.in_err-items.field-0.0 (discrete_tried s (expression_of c.args.cost.now) b) (listed_tried (amount_tried s) (listing_of c.args.capacities.now) s b)
    (counted_list_tried amount_tried s count (listing_of c.args.openings.now) b) (each_tried (load_tried s b count) loads) c.args.visited.now c.discrete.new.visited c.groups.new.visited c.in_ok-z.ensures.0 c.in_ok-groups.ensures.0
    (subst (λ (n : ℕ). IsStopped c.in_err-items.field-0.0 (each_tried (load_tried s b n) loads c.groups.new.visited)) same c.in_err-items.ensures))

pub returns : goal.returns
returns c = λ place.
    let s = c.args.scope.now in
    let b = c.args.cases.now.tuple in
    let loads = map load_of c.args.loads.now in
    let count = length (listed (number_of s) (listing_of c.args.capacities.now) s.names b) in
    let same : c.len.result ≡ count = c.len.ensures ∙ ap (λ (zs : List ℤ). length zs) c.in_ok-groups.ensures.1.0 in (
      fourth_goes (discrete_tried s (expression_of c.args.cost.now) b) (listed_tried (amount_tried s) (listing_of c.args.capacities.now) s b)
          (counted_list_tried amount_tried s count (listing_of c.args.openings.now) b) (each_tried (load_tried s b count) loads) c.args.visited.now c.discrete.new.visited c.groups.new.visited c.items.new.visited c.in_ok-z.ensures.0 c.in_ok-groups.ensures.0
          (subst (λ (n : ℕ). each_tried (load_tried s b n) loads c.groups.new.visited ≡ reached c.items.new.visited) same c.in_ok-items.ensures.0),
      packing_same c.in_ok-z.z (variable_at s (expression_of c.args.cost.now) b) c.in_ok-groups.groups.capacities (listed (number_of s) (listing_of c.args.capacities.now) s.names b) c.in_ok-groups.groups.opening
          (listed (number_of s) (listing_of c.args.openings.now) s.names b) c.in_ok-items.items (flat_map (items_of s b) loads) c.in_ok-z.ensures.1 c.in_ok-groups.ensures.1.0 c.in_ok-groups.ensures.1.1 c.in_ok-items.ensures.1,
    )
