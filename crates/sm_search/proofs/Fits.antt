-- Each line of a depth-first search keeps what holds of the search all along.
use Rattle.std.proofs.Common.{◌≡◌, ◌≢◌, ℕ, ◌<◌, ◌≤◌, ◌⊎◌, Bool, true, false, cond, List, [], ◌∷◌, None, length, refl, arith, inl, inr, get_or-set_same, get_or-set_other}
use Rattle.std.specs.Prelude.{ℤ, pos, ◌*ℤ◌, ◌<ℤ◌, ◌≤ℤ◌, All, int_lt, unsigned_abs}
use Rattle.std.proofs.lemmas.Int.{ints}
use Rattle.std.proofs.lemmas.Bool.{cases_eq}
use Rattle.std.proofs.lemmas.List.{length-set, length-map}
use Rattle.std.proofs.lemmas.List.Elements.{All-head, All-tail, All-cons, All-nil, All-push}
use Rattle.sm_frac.specs.Rational.{◌≤ℚ◌}
use Rattle.sm_frac.proofs.Order.{le_equal, fraction_le_cross}
use Rattle.sm_frac.proofs.IntRing.{pos_abs}
use Rattle.sm_kinds.specs.declared.literal.Literal.{Literal}
use Rattle.sm_flat.specs.declared.goal.Goal.{Goal}
use Rattle.sm_kinds.specs.declared.var.VarKind.{VarKind}
use Rattle.sm_kinds.specs.declared.var.VarKind.TheVariants.{Set, Int, Real}
use Rattle.sm_kinds.specs.Literals.{complement}
use Rattle.sm_flat.specs.Limits.{IsFlat}
use Rattle.sm_kinds.specs.Vars.{IsDomain}
use Rattle.sm_flat.specs.Models.{FlatModel}
use Rattle.sm_kinds.specs.Vars.{var_at, no_var}
use Rattle.sm_store.specs.Stores.{Extent, no_extent, extent_at, extent_of, declared, narrowed, narrow, Narrows}
use Rattle.sm_store.proofs.Parts.{extent_declared}
use Rattle.sm_step.specs.declared.line.Line.{Line}
use Rattle.sm_step.specs.declared.line.Line.TheVariants as line
use Rattle.sm_rules.specs.declared.node.Status.{Status}
use Rattle.sm_rules.specs.declared.node.Status.TheVariants.{Open, Half, Split}
use Rattle.sm_rules.specs.Floors.{AreFloors, number_of, numbers_of, greater, raised}
use Rattle.sm_rules.specs.Objectives.{least_cost, least_costs}
use Rattle.sm_rules.specs.Nodes.{NodeView, TakesChild, LawfulChild, with_child}
use Rattle.sm_rules.specs.Trees.{node_at, set_node, without_node, pruned, focus_of, close_focus, child_of}
use Rattle.sm_rules.specs.States.{State}
use Rattle.sm_rules.specs.Laws.{Allowed}
use Rattle.sm_rules.specs.Transitions.{with_tree, after, start}
use Rattle.sm_rules.specs.Sound.{Sound, IsOf, IsNodeOf}
use Rattle.sm_rules.proofs.NodeLists.{all_set, all_without, all_pruned}
use Rattle.sm_rules.proofs.Keeping.{all_at, sound_after, sound_start, verdict_is_true}
use Rattle.sm_step.specs.Grammar.{IsLiteral}
use Rattle.sm_search.specs.Fits.{AreFilled, IsFilled, IsRaised, IsOnly, AreDiscrete, IsFit, IsOwn, IsNear}
use Rattle.sm_search.proofs.NodeLists.{NotOpen, none_open_set, none_open_without, none_open, only_of_none}

-- ---- values left

filled_narrow : (store : List Extent) (l : Literal) → AreFilled store → Narrows store l → AreFilled (narrow store l)
filled_narrow store l filled narrows i lt =
    let e = narrowed l (extent_at store l.var) in
    let lt' : i < length store = omega (arith, length-set store l.var e) in
    elim (cases_eq i l.var) [
      | inl same ↦ rw (same, get_or-set_same store l.var e no_extent narrows.known) narrows.leaves
      | inr other ↦ rw (get_or-set_other store l.var i e no_extent other) (filled i lt')
    ]

parent_filled : (store : List Extent) (status : Status) (l : Literal) → LawfulChild store status l → IsFilled store status → IsFilled store (with_child status l)
parent_filled store Open l law filled = filled_narrow store (complement l) filled law.1
parent_filled store (Half first) l law filled = tt
parent_filled store (Split first) l law filled = tt

child_filled : (store : List Extent) (status : Status) (l : Literal) → LawfulChild store status l → IsFilled store status → AreFilled (narrow store l)
child_filled store Open l law filled = filled_narrow store l filled law.0
child_filled store (Half first) l law filled = rw law filled
child_filled store (Split first) l law filled = absurd law

-- ---- floors

greater_ge : (p q : ℤ × ℤ) → pos 0 <ℤ p.1 → pos 0 <ℤ q.1 → number_of q ≤ℚ number_of (greater p q)
greater_ge p q a b = by_test (int_lt (p.0 *ℤ q.1) (q.0 *ℤ p.1)) refl
  where
    not_less : int_lt (p.0 *ℤ q.1) (q.0 *ℤ p.1) ≡ false → (q.0 *ℤ p.1) ≤ℤ (p.0 *ℤ q.1)
    not_less e = grind (arith, ints)

    by_test : (b : Bool) → int_lt (p.0 *ℤ q.1) (q.0 *ℤ p.1) ≡ b → number_of q ≤ℚ number_of (cond b q p)
    by_test true e = le_equal _ _ refl
    by_test false e = (fraction_le_cross q.0 p.0 (unsigned_abs q.1) (unsigned_abs p.1) (omega (arith, ints)) (omega (arith, ints))).1 (rw (pos_abs p.1 a, pos_abs q.1 b) (not_less e))

raised_ge : (gs xs : List (ℤ × ℤ)) → length gs ≡ length xs → All (λ p. pos 0 <ℤ p.1) gs → All (λ p. pos 0 <ℤ p.1) xs → AreFloors (numbers_of xs) (numbers_of (raised gs xs))
raised_ge gs [] same a b = tt
raised_ge [] (x ∷ xs) same a b = absurd (omega arith)
raised_ge (g ∷ gs) (x ∷ xs) same a b = (
  greater_ge g x (All-head (λ p. pos 0 <ℤ p.1) g gs a) (All-head (λ p. pos 0 <ℤ p.1) x xs b),
  raised_ge gs xs (omega arith) (All-tail (λ p. pos 0 <ℤ p.1) g gs a) (All-tail (λ p. pos 0 <ℤ p.1) x xs b),
)

floors_same : (xs : List (ℤ × ℤ)) → AreFloors (numbers_of xs) (numbers_of xs)
floors_same [] = tt
floors_same (x ∷ xs) = (le_equal (number_of x) (number_of x) refl, floors_same xs)

least_positive : (goals : List Goal) (store : List Extent) → All (λ p. pos 0 <ℤ p.1) (least_costs goals store)
least_positive [] store = All-nil _
least_positive (g ∷ gs) store = All-cons (λ p. pos 0 <ℤ p.1) (least_cost store g, pos 1) (least_costs gs store) (omega (arith, ints)) (least_positive gs store)

parent_raised : (m : FlatModel) (store : List Extent) (floors : List (ℤ × ℤ)) (status : Status) (l : Literal) → IsRaised m store floors (with_child status l)
parent_raised m store floors Open l = tt
parent_raised m store floors (Half first) l = tt
parent_raised m store floors (Split first) l = tt

near_of : (store : List Extent) (l : Literal) → length store ≤ 4096 → Narrows store l → IsLiteral l
near_of store l few narrows = (omega (arith, narrows.known, few), narrows.bounded)

parent_near : (store : List Extent) (status : Status) (l : Literal) → length store ≤ 4096 → LawfulChild store status l → IsNear (with_child status l)
parent_near store Open l few law = near_of store (complement l) few law.1
parent_near store (Half first) l few law = tt
parent_near store (Split first) l few law = tt

-- what a child's literal is, where the node above has its store and status
pub child_near : (store : List Extent) (status : Status) (l : Literal) → length store ≤ 4096 → LawfulChild store status l → IsNear status → IsLiteral l
child_near store Open l few law near = near_of store l few law.0
child_near store (Half first) l few law near = rw law near
child_near store (Split first) l few law near = absurd law

with_child_not_open : (status : Status) (l : Literal) → with_child status l ≢ Open
with_child_not_open Open l e = absurd (cc)
with_child_not_open (Half first) l e = absurd (cc)
with_child_not_open (Split first) l e = absurd (cc)

-- ---- lines

module _ (m : FlatModel) (s : State) (fit : IsFit m s) where
  filled_at : (k : ℕ) → TakesChild (node_at s.main.nodes k).status → IsFilled (node_at s.main.nodes k).store (node_at s.main.nodes k).status
  filled_at k takes = all_at (λ (n : NodeView). IsFilled n.store n.status) s.main.nodes k fit.filled takes

  opened : (id parent : ℕ) (l : Literal) → (parent ≡ s.main.focus) ⊎ ((focus_of s.main).status ≢ Open) → Allowed m s (line.Node id parent l) → IsOf m (after m s (line.Node id parent l)) → Sound m (λ _. true) (after m s (line.Node id parent l)) → IsFit m (after m s (line.Node id parent l))
  opened id parent l first ok of sound =
      let old = node_at s.main.nodes parent in
      let new : NodeView = record old { status = with_child old.status l } in
      let child = child_of m s.main.count old l in
      let node = all_at (λ (n : NodeView). IsNodeOf m n) s.main.nodes parent fit.of.nodes ok.due.order.takes in
      let none = none_after parent new (with_child_not_open old.status l) first in
      record {
        of = of;
        discrete = fit.discrete;
        sound = sound;
        says = rw ok.due.running tt;
        whole = fit.whole;
        only = All-push (λ (n : NodeView). IsOnly s.main.count n) (set_node s.main.nodes parent new) child (only_of_none s.main.count (set_node s.main.nodes parent new) none) (λ e. refl);
        filled = All-push (λ (n : NodeView). IsFilled n.store n.status) (set_node s.main.nodes parent new) child (all_set (λ (n : NodeView). IsFilled n.store n.status) s.main.nodes parent new (λ _. parent_filled old.store old.status l ok.law (filled_at parent ok.due.order.takes)) fit.filled) (child_filled old.store old.status l ok.law (filled_at parent ok.due.order.takes));
        raised = All-push (λ (n : NodeView). IsRaised m n.store n.floors n.status) (set_node s.main.nodes parent new) child (all_set (λ (n : NodeView). IsRaised m n.store n.floors n.status) s.main.nodes parent new (λ _. parent_raised m old.store old.floors old.status l) fit.raised) (raised_ge old.floors (least_costs m.goals (narrow old.store l)) (rw (length-map {B = ℤ × ℤ} m.goals (λ g. (least_cost (narrow old.store l) g, pos 1))) node.floors) node.positive (least_positive m.goals (narrow old.store l)));
        near = All-push (λ (n : NodeView). IsNear n.status) (set_node s.main.nodes parent new) child (all_set (λ (n : NodeView). IsNear n.status) s.main.nodes parent new (λ _. parent_near old.store old.status l (omega (arith, node.store.wide, fit.of.flat.vars.few)) ok.law) fit.near) tt;
      }
    where
      none_after : (parent : ℕ) (new : NodeView) → NotOpen new → (parent ≡ s.main.focus) ⊎ ((focus_of s.main).status ≢ Open) → All NotOpen (set_node s.main.nodes parent new)
      none_after parent new not_open (inl at) = rw at (none_open_set s.main.nodes s.main.focus new not_open fit.of.numbered.rising fit.only)
      none_after parent new not_open (inr closed) = all_set NotOpen s.main.nodes parent new (λ _. not_open) (none_open s.main.nodes s.main.focus closed fit.of.numbered.rising fit.only)

  closed : (l : Line) → after m s l ≡ with_tree s (close_focus s.main) → s.verdict ≡ None → IsOf m (after m s l) → Sound m (λ _. true) (after m s l) → IsFit m (after m s l)
  closed l e running of sound =
      let ns = without_node s.main.nodes s.main.focus in
      let none = all_pruned NotOpen ns (none_open_without s.main.nodes s.main.focus fit.of.numbered.rising fit.only) in
      let new : State = with_tree s (close_focus s.main) in
      let of' : IsOf m new = rw e at of in
      let sound' : Sound m (λ _. true) new = rw e at sound in
      let fit' : IsFit m new = record {
        of = of';
        discrete = fit.discrete;
        sound = sound';
        says = rw running tt;
        whole = fit.whole;
        only = only_of_none s.main.focus (pruned ns) none;
        filled = all_pruned (λ (n : NodeView). IsFilled n.store n.status) ns (all_without (λ (n : NodeView). IsFilled n.store n.status) s.main.nodes s.main.focus fit.filled);
        raised = all_pruned (λ (n : NodeView). IsRaised m n.store n.floors n.status) ns (all_without (λ (n : NodeView). IsRaised m n.store n.floors n.status) s.main.nodes s.main.focus fit.raised);
        near = all_pruned (λ (n : NodeView). IsNear n.status) ns (all_without (λ (n : NodeView). IsNear n.status) s.main.nodes s.main.focus fit.near);
      } in
      rw e fit'

pub fit_after : (m : FlatModel) (s : State) (l : Line) → IsFit m s → IsOwn s l → Allowed m s l → IsOf m (after m s l) → IsFit m (after m s l)
fit_after m s l fit first ok of = by_line l first ok of (sound_after m (λ _. true) s l fit.of ok (λ i d lt. refl) fit.sound)
  where
    by_line : (l : Line) → IsOwn s l → Allowed m s l → IsOf m (after m s l) → Sound m (λ _. true) (after m s l) → IsFit m (after m s l)
    by_line (line.Header version) first ok of sound = record { of = of; discrete = fit.discrete; sound = sound; says = rw ok.due.running tt; whole = fit.whole; only = fit.only; filled = fit.filled; raised = fit.raised; near = fit.near }
    by_line (line.Node id parent l) first ok of sound = opened m s fit id parent l first ok of sound
    by_line (line.Infer rule outcome) first ok of sound = absurd first
    by_line (line.Floor terms) first ok of sound = absurd first
    by_line line.CloseFloor first ok of sound = closed m s fit line.CloseFloor refl ok.due.running of sound
    by_line (line.Violated k) first ok of sound = closed m s fit (line.Violated k) refl ok.due.running of sound
    by_line (line.Sol d vs) first ok of sound = record { of = of; discrete = fit.discrete; sound = sound; says = rw ok.due.running tt; whole = first; only = fit.only; filled = fit.filled; raised = fit.raised; near = fit.near }
    by_line (line.Verdict v) first ok of sound = record { of = of; discrete = fit.discrete; sound = sound; says = verdict_is_true m (λ _. true) s v fit.sound ok.law; whole = fit.whole; only = fit.only; filled = fit.filled; raised = fit.raised; near = fit.near }
    by_line _ first ok of sound = absurd ok.law

some_value : (kind : VarKind) (values : List ℤ) → IsDomain kind values → 0 < length values
some_value Set values domain = domain.some
some_value Int values domain = let two = domain.two in omega (arith, two)
some_value Real values domain = let two = domain.two in omega (arith, two)

declared_filled : (m : FlatModel) → IsFlat m → AreFilled (declared m.vars)
declared_filled m flat i lt =
    let lt' : i < length m.vars = omega (arith, length-map m.vars extent_of) in
    let v = var_at m.vars i in
    rw (extent_declared m.vars i) (some_value v.kind v.values (flat.vars.each i no_var lt'))

pub fit_start : (m : FlatModel) → AreDiscrete m.vars → IsOf m (start m) → IsFit m (start m)
fit_start m discrete of = record {
  of = of;
  discrete = discrete;
  sound = sound_start m (λ _. true) of.flat;
  says = tt;
  whole = tt;
  only = All-cons (λ (n : NodeView). IsOnly 0 n) _ [] (λ e. refl) (All-nil _);
  filled = All-cons (λ (n : NodeView). IsFilled n.store n.status) _ [] (declared_filled m of.flat) (All-nil _);
  raised = All-cons (λ (n : NodeView). IsRaised m n.store n.floors n.status) _ [] (floors_same (least_costs m.goals (declared m.vars))) (All-nil _);
  near = All-cons (λ (n : NodeView). IsNear n.status) _ [] tt (All-nil _);
}
