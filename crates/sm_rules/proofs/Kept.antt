-- What every step keeps of the state: the order of the nodes, that they are of the model, and that nothing refuted is left.
use Rattle.std.proofs.Common.{◌≡◌, ℕ, suc, ◌+◌, ◌<◌, Bool, true, false, cond, ◌&&◌, not, List, [], ◌∷◌, ◌++◌, length, refl, arith, ap, sym, ◌∙◌}
use Rattle.std.specs.Prelude.{ℤ, pos, ◌*ℤ◌, ◌<ℤ◌, int_lt, ◌==◌, All}
use Rattle.std.proofs.lemmas.Int.{ints}
use Rattle.std.proofs.lemmas.Bool.Decides.{nat_tests}
use Rattle.std.proofs.lemmas.List.{length-map}
use Rattle.std.proofs.lemmas.List.Elements.{All-nil, All-cons, All-head, All-tail, All-push, All-map, All-weaker}
use Rattle.std.proofs.lemmas.List.Quantifiers.{all_pairs_push}
use Rattle.std.proofs.lemmas.List.Folds.{list_all-append}
use Rattle.sm_kinds.specs.declared.literal.Literal.{Literal}
use Rattle.sm_flat.specs.declared.goal.Goal.{Goal}
use Rattle.sm_flat.specs.Models.{FlatModel}
use Rattle.sm_flat.specs.Limits.{IsFlat}
use Rattle.sm_store.specs.Stores.{Extent, narrow, narrow_all, declared, IsStoreOf}
use Rattle.sm_store.proofs.Parts.{store_narrowed, store_declared}
use Rattle.sm_step.specs.declared.line.Line.{Line}
use Rattle.sm_step.specs.declared.line.Line.TheVariants as line
use Rattle.sm_step.specs.declared.line.Outcome.{Outcome}
use Rattle.sm_step.specs.declared.line.Outcome.TheVariants.{Close, Literals}
use Rattle.sm_rules.specs.declared.node.Status.{Status}
use Rattle.sm_rules.specs.declared.node.Status.TheVariants.{Open}
use Rattle.sm_rules.specs.Floors.{greater, raised}
use Rattle.sm_rules.specs.Objectives.{least_costs, least_cost}
use Rattle.sm_rules.specs.Nodes.{NodeView, is_split, with_child, TakesChild}
use Rattle.sm_rules.specs.Trees.{Tree, node_at, focus_of, set_node, without_node, has_no_child, is_done, has_empty, close_focus, with_focus, narrow_focus, raised_first, raise_focus, open_child, child_of, IsNumbered}
use Rattle.sm_rules.specs.States.{State}
use Rattle.sm_rules.specs.Laws.{Allowed}
use Rattle.sm_rules.specs.Transitions.{with_tree, concluded, after, start}
use Rattle.sm_rules.specs.Sound.{IsNodeOf, IsOf}
use Rattle.sm_rules.specs.Places.{AreRising}
use Rattle.sm_rules.proofs.NodeLists.{all_set, all_pruned, all_without, pairs_set, pairs_pruned, pairs_without}
use Rattle.sm_rules.proofs.Pruning.{AllNeeded, needed_from_kept, kept_from_needed, pruned-pruned}

rising_set : (ns : List NodeView) (k : ℕ) (new : NodeView) → new.number ≡ (node_at ns k).number → AreRising ns → AreRising (set_node ns k new)
rising_set ns k new e h = pairs_set (λ (n k : NodeView). n.number < k.number) ns k new (λ n lt. rw e lt) (λ n lt. rw e lt) h

-- ---- the order of the nodes

pub numbered_closed : (t : Tree) → IsNumbered t → IsNumbered (close_focus t)
numbered_closed t h = record {
  rising = pairs_pruned (λ (n k : NodeView). n.number < k.number) (without_node t.nodes t.focus) (pairs_without (λ (n k : NodeView). n.number < k.number) t.nodes t.focus h.rising);
  below = all_pruned (λ (n : NodeView). n.number < t.count) (without_node t.nodes t.focus) (all_without (λ (n : NodeView). n.number < t.count) t.nodes t.focus h.below);
}

pub numbered_opened : (m : FlatModel) (t : Tree) (parent : ℕ) (l : Literal) → IsNumbered t → IsNumbered (open_child m t parent l)
numbered_opened m t parent l h =
    let old = node_at t.nodes parent in
    let new : NodeView = record old { status = with_child old.status l } in
    let set = set_node t.nodes parent new in
    let below : All (λ (n : NodeView). n.number < t.count) set = all_set (λ (n : NodeView). n.number < t.count) t.nodes parent new (λ x. x) h.below in
    record {
      rising = all_pairs_push (λ (n k : NodeView). n.number < k.number) set (child_of m t.count old l) (rising_set t.nodes parent new refl h.rising) below;
      below = All-push (λ (n : NodeView). n.number < t.count + 1) set (child_of m t.count old l) (All-weaker (λ (n : NodeView). n.number < t.count) (λ (n : NodeView). n.number < t.count + 1) (λ n lt. omega arith) set below) (omega arith);
    }

-- ---- nothing refuted is left

no_child-set : (k : ℕ) (ns : List NodeView) (i : ℕ) (new : NodeView) → new.parent ≡ (node_at ns i).parent → has_no_child k (set_node ns i new) ≡ has_no_child k ns
no_child-set k [] i new e = refl
no_child-set k (n ∷ ns) i new e = by_test (n.number == i) e (no_child-set k ns i new)
  where
    by_test : (b : Bool) → new.parent ≡ (cond b n (node_at ns i)).parent → (new.parent ≡ (node_at ns i).parent → has_no_child k (set_node ns i new) ≡ has_no_child k ns) → has_no_child k (cond b (new ∷ ns) (n ∷ set_node ns i new)) ≡ (not (n.parent == k) && has_no_child k ns)
    by_test true e rest = ap (λ (p : ℕ). not (p == k) && has_no_child k ns) e
    by_test false e rest = ap (λ (b : Bool). not (n.parent == k) && b) (rest e)

and_false : (a : Bool) → (a && false) ≡ false
and_false true = refl
and_false false = refl

false_and : (a b : Bool) → a ≡ false → (a && b) ≡ false
false_and a b e = rw e refl

same_test : (a b : ℕ) → a ≡ b → not (a == b) ≡ false
same_test a b e = grind (arith, nat_tests)

-- a child at the end is a child
child_at_end : (k : ℕ) (ns : List NodeView) (child : NodeView) → child.parent ≡ k → has_no_child k (ns ++ child ∷ []) ≡ false
child_at_end k [] child e = rw (same_test child.parent k e) refl
child_at_end k (n ∷ ns) child e = rw (child_at_end k ns child e) (and_false (not (n.parent == k)))

-- more nodes after one have no fewer children of it
more_after : (s : Bool) (k : ℕ) (ns : List NodeView) (child : NodeView) → (s && has_no_child k ns) ≡ false → (s && has_no_child k (ns ++ child ∷ [])) ≡ false
more_after s k ns child h = rw (list_all-append (λ (c : NodeView). not (c.parent == k)) ns (child ∷ [])) (by_both s (has_no_child k ns) (has_no_child k (child ∷ [])) h)
  where
    by_both : (s a b : Bool) → (s && a) ≡ false → (s && (a && b)) ≡ false
    by_both true a b h = rw h refl
    by_both false a b h = refl

needed_push : (ns : List NodeView) (child : NodeView) → is_split child.status ≡ false → AllNeeded ns → AllNeeded (ns ++ child ∷ [])
needed_push [] child is_open h = (false_and (is_split child.status) true is_open, tt)
needed_push (n ∷ ns) child is_open h = (more_after (is_split n.status) n.number ns child h.0, needed_push ns child is_open h.1)

needed_open : (ns : List NodeView) (k : ℕ) (new child : NodeView) → is_split child.status ≡ false → new.number ≡ (node_at ns k).number → new.parent ≡ (node_at ns k).parent → child.parent ≡ (node_at ns k).number → AllNeeded ns → AllNeeded (set_node ns k new ++ child ∷ [])
needed_open [] k new child is_open number parent under h = (false_and (is_split child.status) true is_open, tt)
needed_open (n ∷ ns) k new child is_open number parent under h = by_test (n.number == k) number parent under (needed_open ns k new child is_open)
  where
    by_test : (b : Bool) → new.number ≡ (cond b n (node_at ns k)).number → new.parent ≡ (cond b n (node_at ns k)).parent → child.parent ≡ (cond b n (node_at ns k)).number → (new.number ≡ (node_at ns k).number → new.parent ≡ (node_at ns k).parent → child.parent ≡ (node_at ns k).number → AllNeeded ns → AllNeeded (set_node ns k new ++ child ∷ [])) → AllNeeded (cond b (new ∷ ns) (n ∷ set_node ns k new) ++ child ∷ [])
    by_test true number parent under rest = (rw (child_at_end new.number ns child (under ∙ sym number)) (and_false (is_split new.status)), needed_push ns child is_open h.1)
    by_test false number parent under rest =
        let same : is_done n (set_node ns k new) ≡ false = rw (no_child-set n.number ns k new parent) h.0 in
        (more_after (is_split n.status) n.number (set_node ns k new) child same, rest number parent under h.1)

-- ---- nodes of the model

all_at : (P : NodeView → Type 0) (ns : List NodeView) (k : ℕ) → All P ns → TakesChild (node_at ns k).status → P (node_at ns k)
all_at P [] k h takes = absurd takes
all_at P (n ∷ ns) k h takes = by_test (n.number == k) takes (All-head P n ns h) (all_at P ns k (All-tail P n ns h))
  where
    by_test : (b : Bool) → TakesChild (cond b n (node_at ns k)).status → P n → (TakesChild (node_at ns k).status → P (node_at ns k)) → P (cond b n (node_at ns k))
    by_test true takes here rest = here
    by_test false takes here rest = rest takes

takes_open : (status : Status) → status ≡ Open → TakesChild status
takes_open status e = rw e tt

length-raised : (gs xs : List (ℤ × ℤ)) → length gs ≡ length xs → length (raised gs xs) ≡ length gs
length-raised [] xs e = refl
length-raised (g ∷ gs) [] e = absurd (omega arith)
length-raised (g ∷ gs) (x ∷ xs) e = ap (λ (n : ℕ). suc n) (length-raised gs xs (omega arith))

greater_either : (P : ℤ × ℤ → Type 0) (p q : ℤ × ℤ) → P p → P q → P (greater p q)
greater_either P p q h k = by_test (int_lt (p.0 *ℤ q.1) (q.0 *ℤ p.1))
  where
    by_test : (b : Bool) → P (cond b q p)
    by_test true = k
    by_test false = h

all_raised : (P : ℤ × ℤ → Type 0) (gs xs : List (ℤ × ℤ)) → All P gs → All P xs → All P (raised gs xs)
all_raised P [] xs h k = h
all_raised P (g ∷ gs) [] h k = k
all_raised P (g ∷ gs) (x ∷ xs) h k = All-cons P (greater g x) (raised gs xs) (greater_either P g x (All-head P g gs h) (All-head P x xs k)) (all_raised P gs xs (All-tail P g gs h) (All-tail P x xs k))

costs_positive : (goals : List Goal) (store : List Extent) → All (λ p. pos 0 <ℤ p.1) (least_costs goals store)
costs_positive goals store = All-map (λ (p : ℤ × ℤ). pos 0 <ℤ p.1) (λ g. (least_cost store g, pos 1)) goals (λ k d lt. omega (arith, ints))

length-costs : (goals : List Goal) (store : List Extent) → length (least_costs goals store) ≡ length goals
length-costs goals store = length-map goals (λ g. (least_cost store g, pos 1))

child_is_of : (m : FlatModel) (number : ℕ) (parent : NodeView) (l : Literal) → IsNodeOf m parent → IsNodeOf m (child_of m number parent l)
child_is_of m number parent l h =
    let store = narrow parent.store l in
    let costs = least_costs m.goals store in
    let same : length parent.floors ≡ length costs = h.floors ∙ sym (length-costs m.goals store) in
    record {
      store = store_narrowed m parent.store l h.store;
      floors = length-raised parent.floors costs same ∙ h.floors;
      positive = all_raised (λ (p : ℤ × ℤ). pos 0 <ℤ p.1) parent.floors costs h.positive (costs_positive m.goals store);
    }

-- ---- the state

of_opened : (m : FlatModel) (s : State) (parent : ℕ) (l : Literal) → IsOf m s → TakesChild (node_at s.main.nodes parent).status → IsOf m (with_tree s (open_child m s.main parent l))
of_opened m s parent l of takes =
    let nodes = s.main.nodes in
    let old = node_at nodes parent in
    let new : NodeView = record old { status = with_child old.status l } in
    let child = child_of m s.main.count old l in
    record {
      flat = of.flat;
      nodes = All-push (λ (n : NodeView). IsNodeOf m n) (set_node nodes parent new) child (all_set (λ (n : NodeView). IsNodeOf m n) nodes parent new (λ h. record { store = h.store; floors = h.floors; positive = h.positive }) of.nodes) (child_is_of m s.main.count old l (all_at (λ (n : NodeView). IsNodeOf m n) nodes parent of.nodes takes));
      numbered = numbered_opened m s.main parent l of.numbered;
      kept = kept_from_needed (set_node nodes parent new ++ child ∷ []) (needed_open nodes parent new child refl refl refl refl (needed_from_kept nodes of.kept));
      best = of.best;
    }

of_closed : (m : FlatModel) (s : State) → IsOf m s → IsOf m (with_tree s (close_focus s.main))
of_closed m s of = record {
  flat = of.flat;
  nodes = all_pruned (λ (n : NodeView). IsNodeOf m n) (without_node s.main.nodes s.main.focus) (all_without (λ (n : NodeView). IsNodeOf m n) s.main.nodes s.main.focus of.nodes);
  numbered = numbered_closed s.main of.numbered;
  kept = pruned-pruned (without_node s.main.nodes s.main.focus);
  best = of.best;
}

-- the focus with another store or other floors
pub needed_set : (ns : List NodeView) (k : ℕ) (new : NodeView) → is_split new.status ≡ false → new.parent ≡ (node_at ns k).parent → AllNeeded ns → AllNeeded (set_node ns k new)
needed_set [] k new is_open parent h = tt
needed_set (n ∷ ns) k new is_open parent h = by_test (n.number == k) parent (needed_set ns k new is_open)
  where
    by_test : (b : Bool) → new.parent ≡ (cond b n (node_at ns k)).parent → (new.parent ≡ (node_at ns k).parent → AllNeeded ns → AllNeeded (set_node ns k new)) → AllNeeded (cond b (new ∷ ns) (n ∷ set_node ns k new))
    by_test true parent rest = (false_and (is_split new.status) (has_no_child new.number ns) is_open, h.1)
    by_test false parent rest =
        let same : is_done n (set_node ns k new) ≡ false = rw (no_child-set n.number ns k new parent) h.0 in
        (same, rest parent h.1)

of_focus : (m : FlatModel) (s : State) (new : NodeView) → IsOf m s → is_split new.status ≡ false → new.number ≡ (focus_of s.main).number → new.parent ≡ (focus_of s.main).parent → IsNodeOf m new → IsOf m (with_tree s (with_focus s.main new))
of_focus m s new of is_open number parent node = record {
  flat = of.flat;
  nodes = all_set (λ (n : NodeView). IsNodeOf m n) s.main.nodes s.main.focus new (λ h. node) of.nodes;
  numbered = record {
    rising = rising_set s.main.nodes s.main.focus new number of.numbered.rising;
    below = all_set (λ (n : NodeView). n.number < s.main.count) s.main.nodes s.main.focus new (λ lt. rw number lt) of.numbered.below;
  };
  kept = kept_from_needed (set_node s.main.nodes s.main.focus new) (needed_set s.main.nodes s.main.focus new is_open parent (needed_from_kept s.main.nodes of.kept));
  best = of.best;
}

store_narrowed_all : (m : FlatModel) (store : List Extent) (ls : List Literal) → IsStoreOf m store → IsStoreOf m (narrow_all store ls)
store_narrowed_all m store [] of = of
store_narrowed_all m store (l ∷ ls) of = store_narrowed_all m (narrow store l) ls (store_narrowed m store l of)

pub open_not_split : (status : Status) → status ≡ Open → is_split status ≡ false
open_not_split status e = rw e refl

of_narrowed : (m : FlatModel) (s : State) (ls : List Literal) → IsOf m s → (focus_of s.main).status ≡ Open → IsOf m (with_tree s (narrow_focus ls s.main))
of_narrowed m s ls of is_open = by_test (has_empty (narrow_all old.store ls))
  where
    old : NodeView
    old = focus_of s.main

    new : NodeView
    new = record old { store = narrow_all old.store ls }

    by_test : (b : Bool) → IsOf m (with_tree s (cond b (close_focus s.main) (with_focus s.main new)))
    by_test true = of_closed m s of
    by_test false =
        let node = all_at (λ (n : NodeView). IsNodeOf m n) s.main.nodes s.main.focus of.nodes (takes_open old.status is_open) in
        of_focus m s new of (open_not_split old.status is_open) refl refl (record { store = store_narrowed_all m old.store ls node.store; floors = node.floors; positive = node.positive })

length-raised_first : (goals : List Goal) (store : List Extent) (fs : List (ℤ × ℤ)) → length (raised_first goals store fs) ≡ length fs
length-raised_first [] store fs = refl
length-raised_first (g ∷ goals) store [] = refl
length-raised_first (g ∷ goals) store (f ∷ fs) = refl

positive_first : (goals : List Goal) (store : List Extent) (fs : List (ℤ × ℤ)) → All (λ p. pos 0 <ℤ p.1) fs → All (λ p. pos 0 <ℤ p.1) (raised_first goals store fs)
positive_first [] store fs h = h
positive_first (g ∷ goals) store [] h = h
positive_first (g ∷ goals) store (f ∷ fs) h =
    let P : ℤ × ℤ → Type 0 = λ p. pos 0 <ℤ p.1 in
    All-cons P (greater f (least_cost store g, pos 1)) fs (greater_either P f (least_cost store g, pos 1) (All-head P f fs h) (omega (arith, ints))) (All-tail P f fs h)

of_raised : (m : FlatModel) (s : State) → IsOf m s → (focus_of s.main).status ≡ Open → IsOf m (with_tree s (raise_focus m s.main))
of_raised m s of is_open =
    let old = focus_of s.main in
    let node = all_at (λ (n : NodeView). IsNodeOf m n) s.main.nodes s.main.focus of.nodes (takes_open old.status is_open) in
    of_focus m s (record old { floors = raised_first m.goals old.store old.floors }) of (open_not_split old.status is_open) refl refl
    (record { store = node.store; floors = length-raised_first m.goals old.store old.floors ∙ node.floors; positive = positive_first m.goals old.store old.floors node.positive })

of_concluded : (m : FlatModel) (s : State) (outcome : Outcome) → IsOf m s → (focus_of s.main).status ≡ Open → IsOf m (with_tree s (concluded outcome s.main))
of_concluded m s Close of is_open = of_closed m s of
of_concluded m s (Literals ls) of is_open = of_narrowed m s ls of is_open

pub of_after : (m : FlatModel) (s : State) (l : Line) → IsOf m s → Allowed m s l → IsOf m (after m s l)
of_after m s (line.Header version) of ok = record { flat = of.flat; nodes = of.nodes; numbered = of.numbered; kept = of.kept; best = of.best }
of_after m s (line.Node id parent l) of ok = of_opened m s parent l of ok.due.order.takes
of_after m s (line.Infer r outcome) of ok = of_concluded m s outcome of ok.due.order.is_open
of_after m s (line.Floor terms) of ok = of_raised m s of ok.due.order.is_open
of_after m s line.CloseFloor of ok = of_closed m s of
of_after m s (line.Violated k) of ok = of_closed m s of
of_after m s (line.Sol denominator values) of ok = record { flat = of.flat; nodes = of.nodes; numbered = of.numbered; kept = of.kept; best = record { fit = ok.law.fit; each = ok.law.each } }
of_after m s (line.Verdict v) of ok = record { flat = of.flat; nodes = of.nodes; numbered = of.numbered; kept = of.kept; best = of.best }
of_after m s _ of ok = record { flat = of.flat; nodes = of.nodes; numbered = of.numbered; kept = of.kept; best = of.best }

pub of_start : (m : FlatModel) → IsFlat m → IsOf m (start m)
of_start m flat =
    let store = declared m.vars in
    record {
      flat = flat;
      nodes = All-cons (λ (n : NodeView). IsNodeOf m n) _ [] (record { store = store_declared m flat; floors = length-costs m.goals store; positive = costs_positive m.goals store }) (All-nil (λ (n : NodeView). IsNodeOf m n));
      numbered = record {
        rising = λ i j d lt within. absurd (omega arith);
        below = All-cons (λ (n : NodeView). n.number < 1) _ [] (omega arith) (All-nil (λ (n : NodeView). n.number < 1));
      };
      kept = refl;
      best = tt;
    }
