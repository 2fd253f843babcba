-- What holds of a tree as it is kept holds after each step.
use Rattle.std.proofs.Common.{◌≡◌, ◌≢◌, ℕ, ◌+◌, ◌<◌, Bool, true, false, cond, List, [], ◌∷◌, ◌++◌, length, refl, sym, ap, subst, ◌∙◌, arith}
use Rattle.std.specs.Prelude.{◌==◌, All}
use Rattle.std.proofs.lemmas.Bool.Decides.{nat_tests}
use Rattle.std.proofs.lemmas.List.Elements.{All-nil, All-cons, All-head, All-tail, All-push, All-weaker}
use Rattle.std.proofs.lemmas.List.Quantifiers.{all_pairs_push}
use Rattle.sm_kinds.specs.declared.literal.Literal.{Literal}
use Rattle.sm_flat.specs.Models.{FlatModel}
use Rattle.sm_store.specs.Stores.{Extent, narrow, IsStoreOf}
use Rattle.sm_rules.specs.declared.node.Status.{Status}
use Rattle.sm_rules.specs.declared.node.Status.TheVariants.{Open, Half, Split}
use Rattle.sm_rules.specs.Nodes.{NodeView, KeptNode, no_node, TakesChild, LawfulChild, with_child}
use Rattle.sm_rules.specs.Sound.{IsNodeOf}
use Rattle.sm_rules.specs.Trees.{node_at, set_node, without_node, pruned, child_of, open_child}
use Rattle.sm_rules.specs.Halves.{HasOneChild, IsLastHalf}
use Rattle.sm_rules.specs.Places.{AreRising, IsPlace, at_place}
use Rattle.sm_rules.specs.KeptNodes.{node_of, nodes_over, marked, kept_child, with_kept_child, IsHalfKnown, IsStatusKnown, IsNodeKnown, IsNotUnder, IsHeld, IsKept}
use Rattle.sm_rules.proofs.NodeLists.{all_set, all_pruned, all_without, pairs_set, pairs_pruned, pairs_without}
use Rattle.sm_rules.proofs.Places.{rising_head, rising_tail, node_at_place, node_at_none, set_node_place}
use Rattle.sm_rules.proofs.Pruning.{needed_from_kept, kept_from_needed}
use Rattle.sm_rules.proofs.KeptNodes.{length_of, all_of, pruned_of, without_of, open_childless, needed_of, set_of, push_of, stores_of, stores_found, stores_set, status_at, floors_at, place_of_node, is_place_of, rising_of, widths_of}

-- ---- a node that is kept

pub status_found : (d : List Extent) (ns : List KeptNode) (i k : ℕ) → AreRising ns → IsPlace ns i k → (at_place ns i).status ≡ (node_at (nodes_over d ns) k).status
status_found d ns i k rising p = sym (status_at (λ _. d) ns k ∙ ap (λ (n : KeptNode). n.status) (node_at_place ns i k rising p))

pub floors_found : (d : List Extent) (ns : List KeptNode) (i k : ℕ) → AreRising ns → IsPlace ns i k → (at_place ns i).floors ≡ (node_at (nodes_over d ns) k).floors
floors_found d ns i k rising p = sym (floors_at (λ _. d) ns k ∙ ap (λ (n : KeptNode). n.floors) (node_at_place ns i k rising p))

pub found_over : (d : List Extent) (ns : List KeptNode) (i k : ℕ) → AreRising ns → IsPlace ns i k → node_at (nodes_over d ns) k ≡ at_place (nodes_over d ns) i
found_over d ns i k rising p = node_at_place (nodes_over d ns) i k (rising_of (λ _. d) ns rising) (is_place_of (λ _. d) ns i k p)

pub none_over : (d : List Extent) (ns : List KeptNode) (k : ℕ) → All (λ (n : KeptNode). n.number ≢ k) ns → node_at (nodes_over d ns) k ≡ no_node
none_over d ns k h = node_at_none (nodes_over d ns) k (all_of (λ (n : KeptNode). n.number ≢ k) (λ (n : NodeView). n.number ≢ k) (λ _. d) ns (λ t n e. e) h)

pub width_at : (d : List Extent) (ns : List KeptNode) (i : ℕ) → i < length ns → length (at_place (nodes_over d ns) i).store ≡ length d
width_at d ns i lt = widths_of (length d) (λ _. d) ns (λ k. refl) i no_node (let e = length_of (λ _. d) ns in omega arith)

-- the store that is held is the focus's
pub held_at : (vs : List NodeView) (focus : ℕ) (store : List Extent) → All (IsHeld focus store) vs → TakesChild (node_at vs focus).status → store ≡ (node_at vs focus).store
held_at [] focus store h takes = absurd takes
held_at (v ∷ vs) focus store h takes = by_test (v.number == focus) refl takes (held_at vs focus store (All-tail (IsHeld focus store) v vs h))
  where
    by_test : (b : Bool) → (v.number == focus) ≡ b → TakesChild (cond b v (node_at vs focus)).status → (TakesChild (node_at vs focus).status → store ≡ (node_at vs focus).store) → store ≡ (cond b v (node_at vs focus)).store
    by_test true e takes rest =
        let same : v.number ≡ focus = grind (arith, nat_tests) in
        sym (All-head (IsHeld focus store) v vs h same)
    by_test false e takes rest = rest takes

pub held_place : (d : List Extent) (ns : List KeptNode) (focus : ℕ) (store : List Extent) (i : ℕ) → All (IsHeld focus store) (nodes_over d ns) → i < length ns → (at_place ns i).number ≡ focus → store ≡ (at_place (nodes_over d ns) i).store
held_place d ns focus store i held lt e =
    let at = place_of_node (λ _. d) ns i lt in
    let number : (at_place (nodes_over d ns) i).number ≡ focus = ap (λ (n : NodeView). n.number) at.1 ∙ e in
    sym (held i no_node (let l = length_of (λ _. d) ns in omega arith) number)

pub open_takes : (status : Status) → status ≡ Open → TakesChild status
open_takes status e = rw e tt

-- the store is that of an open node, so the literal may open a child there where it splits this store
pub lawful_open : (d : List Extent) (ns : List KeptNode) (place parent : ℕ) (l : Literal) (store : List Extent) → AreRising ns → IsPlace ns place parent → (at_place ns place).status ≡ Open → store ≡ (at_place (nodes_over d ns) place).store → LawfulChild store Open l ≡ LawfulChild (node_at (nodes_over d ns) parent).store (node_at (nodes_over d ns) parent).status l
lawful_open d ns place parent l store rising p is_open is =
    let status : (node_at (nodes_over d ns) parent).status ≡ Open = sym (status_found d ns place parent rising p) ∙ is_open in
    let same : store ≡ (node_at (nodes_over d ns) parent).store = is ∙ ap (λ (n : NodeView). n.store) (sym (found_over d ns place parent rising p)) in
    rw (status, same) refl

-- ---- the last node with one child

pub half_over : (d : List Extent) (ns : List KeptNode) (number : ℕ) (l : Literal) → IsLastHalf ns number l → IsLastHalf (nodes_over d ns) number l
half_over d ns number l h = record {
  first = h.first;
  status = status_at (λ _. d) ns number ∙ h.status;
  other = h.other;
  last = all_of (λ (n : KeptNode). HasOneChild n.status → number < n.number → ⊥) (λ (n : NodeView). HasOneChild n.status → number < n.number → ⊥) (λ _. d) ns (λ t n f. f) h.last;
}

pub no_half_over : (d : List Extent) (ns : List KeptNode) → All (λ (n : KeptNode). HasOneChild n.status → ⊥) ns → All (λ (n : NodeView). HasOneChild n.status → ⊥) (nodes_over d ns)
no_half_over d ns h = all_of (λ (n : KeptNode). HasOneChild n.status → ⊥) (λ (n : NodeView). HasOneChild n.status → ⊥) (λ _. d) ns (λ t n f. f) h

pub half_known : (width : ℕ) (ns : List KeptNode) (k : ℕ) (first : Literal) → All (λ (n : KeptNode). IsNodeKnown width n) ns → (node_at ns k).status ≡ Half first → IsHalfKnown width first
half_known width [] k first h e = absurd (cc)
half_known width (n ∷ ns) k first h e = by_test (n.number == k) e (half_known width ns k first (All-tail (λ (n : KeptNode). IsNodeKnown width n) n ns h))
  where
    by_test : (b : Bool) → (cond b n (node_at ns k)).status ≡ Half first → ((node_at ns k).status ≡ Half first → IsHalfKnown width first) → IsHalfKnown width first
    by_test true e rest = let P : Status → Type 0 = λ x. IsStatusKnown width x in subst P e (All-head (λ (n : KeptNode). IsNodeKnown width n) n ns h).status
    by_test false e rest = rest e

-- ---- the focus is closed

pub kept_raw : (d : List Extent) (ns : List KeptNode) → pruned (nodes_over d ns) ≡ nodes_over d ns → pruned ns ≡ ns
kept_raw d ns e = kept_from_needed ns (needed_of (λ _. d) ns (needed_from_kept (nodes_over d ns) e))

pub closed_is : (d : List Extent) (ns : List KeptNode) (count focus : ℕ) (store : List Extent) → IsKept d ns count focus store → (node_at (nodes_over d ns) focus).status ≡ Open → nodes_over d (pruned (without_node ns focus)) ≡ pruned (without_node (nodes_over d ns) focus)
closed_is d ns count focus store kept is_open =
    let raw : (node_at ns focus).status ≡ Open = sym (status_at (λ _. d) ns focus) ∙ is_open in
    pruned_of (λ _. d) (without_node ns focus) ∙ ap pruned (without_of (λ _. d) ns focus (open_childless ns focus raw kept.childless))

pub closed_kept : (d : List Extent) (ns : List KeptNode) (count focus : ℕ) (store : List Extent) → IsKept d ns count focus store → (node_at (nodes_over d ns) focus).status ≡ Open → IsKept d (pruned (without_node ns focus)) count focus store
closed_kept d ns count focus store kept is_open =
    let R : KeptNode → KeptNode → Type 0 = λ n k. n.number < k.number in
    let U : KeptNode → KeptNode → Type 0 = λ n k. IsNotUnder n k in
    let B : KeptNode → Type 0 = λ n. n.number < count in
    let K : KeptNode → Type 0 = λ n. IsNodeKnown (length d) n in
    let vs = nodes_over d ns in
    record {
      rising = pairs_pruned R (without_node ns focus) (pairs_without R ns focus kept.rising);
      below = all_pruned B (without_node ns focus) (all_without B ns focus kept.below);
      childless = pairs_pruned U (without_node ns focus) (pairs_without U ns focus kept.childless);
      known = all_pruned K (without_node ns focus) (all_without K ns focus kept.known);
      held = rw (closed_is d ns count focus store kept is_open) (all_pruned (IsHeld focus store) (without_node vs focus) (all_without (IsHeld focus store) vs focus kept.held));
    }

-- ---- a child opens

with_child_closed : (status : Status) (l : Literal) → with_child status l ≢ Open
with_child_closed Open l e = absurd (cc)
with_child_closed (Half first) l e = absurd (cc)
with_child_closed (Split first) l e = absurd (cc)

-- the node that has a new child isn't open, and no other has its number
none_above : (ns : List KeptNode) (k : ℕ) (new : KeptNode) → new.status ≢ Open → AreRising ns → All (λ (n : KeptNode). k ≡ n.number → n.status ≢ Open) (set_node ns k new)
none_above [] k new closed rising = All-nil _
none_above (n ∷ ns) k new closed rising = by_test (n.number == k) refl (none_above ns k new closed (rising_tail n ns rising))
  where
    P : KeptNode → Type 0
    P n = k ≡ n.number → n.status ≢ Open

    by_test : (b : Bool) → (n.number == k) ≡ b → All P (set_node ns k new) → All P (cond b (new ∷ ns) (n ∷ set_node ns k new))
    by_test true e rest =
        let same : n.number ≡ k = grind (arith, nat_tests) in
        All-cons P new ns (λ _. closed) (λ i d lt e. let above = rising_head n ns rising i d lt in absurd (omega arith))
    by_test false e rest =
        let other : n.number ≢ k = grind (arith, nat_tests) in
        All-cons P n (set_node ns k new) (λ e. absurd (other (sym e))) rest

known_marked : (width : ℕ) (n : KeptNode) (store : List Extent) (l : Literal) → length store ≡ width → LawfulChild store n.status l → IsNodeKnown width n → IsNodeKnown width (marked n l)
known_marked width n store l wide law known = record { literals = known.literals; status = by_status n.status law }
  where
    by_status : (status : Status) → LawfulChild store status l → IsStatusKnown width (with_child status l)
    by_status Open law = record { known = rw (← wide) law.0.known; bounded = law.0.bounded }
    by_status (Half first) law = tt
    by_status (Split first) law = tt

pub child_known : (width : ℕ) (store : List Extent) (status : Status) (l : Literal) → length store ≡ width → LawfulChild store status l → IsStatusKnown width status → l.var < width
child_known width store Open l wide law known = rw (← wide) law.0.known
child_known width store (Half first) l wide law known =
    let e : l.var ≡ first.var = ap (λ (x : Literal). x.var) law in
    rw e known.known
child_known width store (Split first) l wide law known = absurd law

-- the nodes as they are kept with one child more, by number
kept_as : (m : FlatModel) (ns : List KeptNode) (place parent number : ℕ) (l : Literal) (store : List Extent) → AreRising ns → IsPlace ns place parent → with_kept_child m ns place number l store ≡ set_node ns parent (record (node_at ns parent) { status = with_child (node_at ns parent).status l }) ++ kept_child m number (node_at ns parent) l store ∷ []
kept_as m ns place parent number l store rising p = rw (node_at_place ns place parent rising p, set_node_place ns place parent (marked (at_place ns place) l) rising p) refl

-- what the child stands for
child_is : (d : List Extent) (m : FlatModel) (ns : List KeptNode) (place parent number : ℕ) (l : Literal) (store : List Extent) → AreRising ns → IsPlace ns place parent → store ≡ (node_at (nodes_over d ns) parent).store → node_of (stores_of (λ _. d) ns) (kept_child m number (node_at ns parent) l (narrow store l)) ≡ child_of m number (node_at (nodes_over d ns) parent) l
child_is d m ns place parent number l store rising p is =
    let here : node_at ns parent ≡ at_place ns place = node_at_place ns place parent rising p in
    let over = found_over d ns place parent rising p in
    let known : stores_of (λ _. d) ns parent ≡ (node_at (nodes_over d ns) parent).store = stores_found (λ _. d) ns place parent rising p ∙ ap (λ (n : NodeView). n.store) (sym over) in
    let raw : (node_at ns parent).number ≡ parent = ap (λ (n : KeptNode). n.number) here ∙ p.here in
    let view : (node_at (nodes_over d ns) parent).number ≡ parent = ap (λ (n : NodeView). n.number) over ∙ (is_place_of (λ _. d) ns place parent p).here in
    let floors = floors_at (λ _. d) ns parent in
    rw (raw, view, known, floors, is) refl

module _ (d : List Extent) (m : FlatModel) (ns : List KeptNode) (place parent number focus : ℕ) (l : Literal) (old store : List Extent) (kept : IsKept d ns number focus old) (p : IsPlace ns place parent) (is : store ≡ (node_at (nodes_over d ns) parent).store) where
  abbrev pub with_mark : List KeptNode
  with_mark = set_node ns parent (record (node_at ns parent) { status = with_child (node_at ns parent).status l })

  nodes_marked : nodes_over d with_mark ≡ set_node (nodes_over d ns) parent (record (node_at (nodes_over d ns) parent) { status = with_child (node_at (nodes_over d ns) parent).status l })
  nodes_marked =
      let same = status_at (λ _. d) ns parent in
      rw same (set_of (λ _. d) ns parent (with_child (node_at ns parent).status l))

  nodes_opened : nodes_over d (with_kept_child m ns place number l (narrow store l)) ≡ nodes_over d with_mark ++ child_of m number (node_at (nodes_over d ns) parent) l ∷ []
  nodes_opened =
      let child = kept_child m number (node_at ns parent) l (narrow store l) in
      rw (kept_as m ns place parent number l (narrow store l) kept.rising p, push_of (λ _. d) with_mark child, stores_set (λ _. d) ns parent (with_child (node_at ns parent).status l), child_is d m ns place parent number l store kept.rising p is) refl

  pub opened_is : open_child m (record { nodes = nodes_over d ns; count = number; focus = focus }) parent l ≡ record { nodes = nodes_over d (with_kept_child m ns place number l (narrow store l)); count = number + 1; focus = number }
  opened_is = rw (nodes_opened, nodes_marked) refl

  pub opened_kept : LawfulChild store (node_at (nodes_over d ns) parent).status l → IsKept d (with_kept_child m ns place number l (narrow store l)) (number + 1) number (narrow store l)
  opened_kept law = rw (kept_as m ns place parent number l (narrow store l) kept.rising p) (record {
    rising = all_pairs_push R with_mark child (pairs_set R ns parent new (λ n lt. lt) (λ n lt. lt) kept.rising) below;
    below = All-push (λ (n : KeptNode). n.number < number + 1) with_mark child (All-weaker (λ (n : KeptNode). n.number < number) (λ (n : KeptNode). n.number < number + 1) (λ n lt. omega arith) with_mark below) (omega arith);
    childless = all_pairs_push U with_mark child (pairs_set U ns parent new (λ n f e. with_child_closed (node_at ns parent).status l) (λ n f. f) kept.childless) under;
    known = All-push K with_mark child (all_set K ns parent new (λ h. known_marked (length d) (node_at ns parent) store l wide raw h) kept.known) (record { literals = All-cons (λ (x : Literal). x.var < length d) l [] (child_known (length d) store (node_at ns parent).status l wide raw at_known.status) (All-nil _); status = tt });
    held = held;
  })
    where
      R : KeptNode → KeptNode → Type 0
      R n k = n.number < k.number

      U : KeptNode → KeptNode → Type 0
      U n k = IsNotUnder n k

      K : KeptNode → Type 0
      K n = IsNodeKnown (length d) n

      new : KeptNode
      new = record (node_at ns parent) { status = with_child (node_at ns parent).status l }

      child : KeptNode
      child = kept_child m number (node_at ns parent) l (narrow store l)

      here : node_at ns parent ≡ at_place ns place
      here = node_at_place ns place parent kept.rising p

      raw_number : (node_at ns parent).number ≡ parent
      raw_number = ap (λ (n : KeptNode). n.number) here ∙ p.here

      at_known : IsNodeKnown (length d) (node_at ns parent)
      at_known = rw here (kept.known place no_node p.within)

      wide : length store ≡ length d
      wide = rw (is, found_over d ns place parent kept.rising p) (width_at d ns place p.within)

      raw : LawfulChild store (node_at ns parent).status l
      raw = rw (← status_at (λ _. d) ns parent) law

      below : All (λ (n : KeptNode). n.number < number) with_mark
      below = all_set (λ (n : KeptNode). n.number < number) ns parent new (λ lt. lt) kept.below

      under : All (λ (n : KeptNode). IsNotUnder n child) with_mark
      under =
          let P : ℕ → Type 0 = λ k. All (λ (n : KeptNode). k ≡ n.number → n.status ≢ Open) with_mark in
          subst P (sym raw_number) (none_above ns parent new (with_child_closed (node_at ns parent).status l) kept.rising)

      held : All (IsHeld number (narrow store l)) (nodes_over d (with_mark ++ child ∷ []))
      held =
          let is_nodes : nodes_over d (with_mark ++ child ∷ []) ≡ nodes_over d with_mark ++ node_of (stores_of (λ _. d) with_mark) child ∷ [] = push_of (λ _. d) with_mark child in
          let others : All (IsHeld number (narrow store l)) (nodes_over d with_mark) = all_of (λ (n : KeptNode). n.number < number) (IsHeld number (narrow store l)) (λ _. d) with_mark (λ t n lt e. absurd (omega arith)) below in
          let known : stores_of (λ _. d) with_mark parent ≡ store = ap (λ (f : ℕ → List Extent). f parent) (stores_set (λ _. d) ns parent (with_child (node_at ns parent).status l)) ∙ stores_found (λ _. d) ns place parent kept.rising p ∙ ap (λ (n : NodeView). n.store) (sym (found_over d ns place parent kept.rising p)) ∙ sym is in
          let at : stores_of (λ _. d) with_mark (node_at ns parent).number ≡ store = ap (λ (k : ℕ). stores_of (λ _. d) with_mark k) raw_number ∙ known in
          let same : (node_of (stores_of (λ _. d) with_mark) child).store ≡ narrow store l = ap (λ (s : List Extent). narrow s l) at in
          rw is_nodes (All-push (IsHeld number (narrow store l)) (nodes_over d with_mark) (node_of (stores_of (λ _. d) with_mark) child) others (λ e. same))

lawful_takes : (store : List Extent) (status : Status) (l : Literal) → LawfulChild store status l → TakesChild status
lawful_takes store Open l law = tt
lawful_takes store (Half first) l law = tt
lawful_takes store (Split first) l law = law

-- what a child needs of the node at a place: room for it, floors for all goals, and a store of the model that has the literal's variable
pub ready : (d : List Extent) (m : FlatModel) (ns : List KeptNode) (count focus : ℕ) (old : List Extent) (place parent : ℕ) (l : Literal) (store : List Extent) → IsKept d ns count focus old → IsPlace ns place parent → store ≡ (at_place (nodes_over d ns) place).store → All (λ (n : NodeView). IsNodeOf m n) (nodes_over d ns) → LawfulChild (node_at (nodes_over d ns) parent).store (node_at (nodes_over d ns) parent).status l → TakesChild (at_place ns place).status × (length (at_place ns place).floors ≡ length m.goals) × IsStoreOf m store × (l.var < length store)
ready d m ns count focus old place parent l store kept p is nodes law =
    let over = found_over d ns place parent kept.rising p in
    let node : IsNodeOf m (at_place (nodes_over d ns) place) = nodes place no_node (let e = length_of (λ _. d) ns in let w = p.within in omega arith) in
    let status = status_found d ns place parent kept.rising p in
    let floors = floors_found d ns place parent kept.rising p in
    let at : LawfulChild store (at_place ns place).status l = rw (is, ← over, status) law in
    let wide : length store ≡ length d = rw is (width_at d ns place p.within) in (
      lawful_takes store (at_place ns place).status l at,
      rw (floors, over) node.floors,
      rw is node.store,
      rw wide (child_known (length d) store (at_place ns place).status l wide at (kept.known place no_node p.within).status),
    )

pub empty_over : (d : List Extent) (ns : List KeptNode) → length ns ≡ 0 → nodes_over d ns ≡ []
empty_over d [] e = refl
empty_over d (n ∷ ns) e = absurd (omega arith)

pub over_empty : (d : List Extent) (ns : List KeptNode) → nodes_over d ns ≡ [] → length ns ≡ 0
over_empty d ns e = sym (length_of (λ _. d) ns) ∙ ap (λ (vs : List NodeView). length vs) e
