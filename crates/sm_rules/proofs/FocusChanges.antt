-- The focus is narrowed, or a floor of it raised: what is kept changes at its place alone.
use Rattle.std.proofs.Common.{◌≡◌, ◌≢◌, ℕ, ◌<◌, Bool, true, false, cond, List, [], ◌∷◌, ◌++◌, length, refl, sym, ap, ◌∙◌, arith}
use Rattle.std.specs.Prelude.{ℤ, ◌==◌, ◌↔◌, All, Any, IsTrue}
use Rattle.std.proofs.lemmas.Bool.Decides.{nat_tests}
use Rattle.std.proofs.lemmas.List.Elements.{All-nil, All-cons, All-append}
use Rattle.std.proofs.lemmas.List.Folds.{Any-from_list_any, list_any-from_Any}
use Rattle.sm_kinds.specs.declared.literal.Literal.{Literal}
use Rattle.sm_flat.specs.Models.{FlatModel}
use Rattle.sm_store.specs.Stores.{Extent, narrow, narrow_all, is_empty, IsStoreOf}
use Rattle.sm_rules.specs.declared.node.Status.TheVariants.{Open}
use Rattle.sm_rules.specs.Nodes.{NodeView, KeptNode}
use Rattle.sm_rules.specs.Trees.{Tree, node_at, set_node, without_node, pruned, has_no_child, has_empty, focus_of, close_focus, with_focus, narrowed_focus, narrow_focus, raised_first}
use Rattle.sm_rules.specs.Sound.{IsNodeOf}
use Rattle.sm_rules.specs.Places.{AreRising, IsPlace, at_place}
use Rattle.sm_rules.specs.KeptNodes.{node_of, with_store, nodes_of, nodes_over, narrowed_node, with_narrowed, raised_node, with_raised, AreKnown, IsNodeKnown, IsNotUnder, IsHeld, IsKept}
use Rattle.sm_rules.proofs.NodeLists.{all_set, pairs_set}
use Rattle.sm_rules.proofs.Places.{rising_head, rising_tail, node_at_place, set_node_place}
use Rattle.sm_rules.proofs.KeptNodes.{unseen, is_childless, open_childless, status_at, floors_at, rising_of}
use Rattle.sm_rules.proofs.KeptTrees.{floors_found, found_over, width_at, held_at, open_takes}
use Rattle.sm_rules.proofs.Pruning.{needed_from_kept, kept_from_needed}
use Rattle.sm_rules.proofs.Kept.{needed_set, open_not_split}
use Rattle.sm_rules.proofs.Keeping.{all_at}

-- ---- stores

narrow_all-append : (store : List Extent) (xs ys : List Literal) → narrow_all store (xs ++ ys) ≡ narrow_all (narrow_all store xs) ys
narrow_all-append store [] ys = refl
narrow_all-append store (x ∷ xs) ys = narrow_all-append (narrow store x) xs ys

-- ---- what is kept, and the nodes that it stands for

both_cons : (x y : NodeView) (xs ys : List NodeView) → x ≡ y → xs ≡ ys → x ∷ xs ≡ y ∷ ys
both_cons x y xs ys e f = rw (e, f) refl

abbrev pub narrowed_view : NodeView → List Literal → NodeView
narrowed_view v ls = record v { store = narrow_all v.store ls }

-- more literals of a node that has no child change its own store alone
narrow_of : (s : ℕ → List Extent) (ns : List KeptNode) (k : ℕ) (ls : List Literal) → is_childless ns k ≡ true → nodes_of s (set_node ns k (narrowed_node (node_at ns k) ls)) ≡ set_node (nodes_of s ns) k (narrowed_view (node_at (nodes_of s ns) k) ls)
narrow_of s [] k ls none = refl
narrow_of s (n ∷ ns) k ls none = by_test (n.number == k) refl none (narrow_of (with_store s (node_of s n)) ns k ls)
  where
    t : ℕ → List Extent
    t = with_store s (node_of s n)

    by_test : (b : Bool) → (n.number == k) ≡ b → cond b (has_no_child k ns) (is_childless ns k) ≡ true → (is_childless ns k ≡ true → nodes_of t (set_node ns k (narrowed_node (node_at ns k) ls)) ≡ set_node (nodes_of t ns) k (narrowed_view (node_at (nodes_of t ns) k) ls)) → nodes_of s (cond b (narrowed_node (cond b n (node_at ns k)) ls ∷ ns) (n ∷ set_node ns k (narrowed_node (cond b n (node_at ns k)) ls))) ≡ cond b (narrowed_view (cond b (node_of s n) (node_at (nodes_of t ns) k)) ls ∷ nodes_of t ns) (node_of s n ∷ set_node (nodes_of t ns) k (narrowed_view (cond b (node_of s n) (node_at (nodes_of t ns) k)) ls))
    by_test true e none rest =
        let same : n.number ≡ k = grind (arith, nat_tests) in
        let free : has_no_child n.number ns ≡ true = rw same none in
        let new = narrowed_node n ls in
        let here : node_of s new ≡ narrowed_view (node_of s n) ls = ap (λ (x : List Extent). record { number = n.number; parent = n.parent; store = x; floors = n.floors; status = n.status }) (narrow_all-append (s n.parent) n.store ls) in
        both_cons (node_of s new) (narrowed_view (node_of s n) ls) (nodes_of (with_store s (node_of s new)) ns) (nodes_of t ns) here (unseen s new ns free ∙ sym (unseen s n ns free))
    by_test false e none rest = ap (λ (vs : List NodeView). node_of s n ∷ vs) (rest none)

-- new floors are all that is new
raise_of : (s : ℕ → List Extent) (ns : List KeptNode) (k : ℕ) (x : List (ℤ × ℤ)) → nodes_of s (set_node ns k (record (node_at ns k) { floors = x })) ≡ set_node (nodes_of s ns) k (record (node_at (nodes_of s ns) k) { floors = x })
raise_of s [] k x = refl
raise_of s (n ∷ ns) k x = by_test (n.number == k) (raise_of (with_store s (node_of s n)) ns k x)
  where
    by_test : (b : Bool) → nodes_of (with_store s (node_of s n)) (set_node ns k (record (node_at ns k) { floors = x })) ≡ set_node (nodes_of (with_store s (node_of s n)) ns) k (record (node_at (nodes_of (with_store s (node_of s n)) ns) k) { floors = x }) → nodes_of s (cond b (record (cond b n (node_at ns k)) { floors = x } ∷ ns) (n ∷ set_node ns k (record (cond b n (node_at ns k)) { floors = x }))) ≡ cond b (record (cond b (node_of s n) (node_at (nodes_of (with_store s (node_of s n)) ns) k)) { floors = x } ∷ nodes_of (with_store s (node_of s n)) ns) (node_of s n ∷ set_node (nodes_of (with_store s (node_of s n)) ns) k (record (cond b (node_of s n) (node_at (nodes_of (with_store s (node_of s n)) ns) k)) { floors = x }))
    by_test true rest = refl
    by_test false rest = ap (λ (vs : List NodeView). node_of s n ∷ vs) rest

-- what the new node has, and each node of another number, all have
all_set_other : (P : NodeView → Type 0) (vs : List NodeView) (k : ℕ) (new : NodeView) → AreRising vs → P new → ((v : NodeView) → v.number ≢ k → P v) → All P (set_node vs k new)
all_set_other P [] k new rising here other = All-nil P
all_set_other P (v ∷ vs) k new rising here other = by_test (v.number == k) refl (all_set_other P vs k new (rising_tail v vs rising) here other)
  where
    by_test : (b : Bool) → (v.number == k) ≡ b → All P (set_node vs k new) → All P (cond b (new ∷ vs) (v ∷ set_node vs k new))
    by_test true e rest =
        let same : v.number ≡ k = grind (arith, nat_tests) in
        All-cons P new vs here (λ i d lt. other _ (λ at. let above = rising_head v vs rising i d lt in absurd (omega arith)))
    by_test false e rest =
        let differs : v.number ≢ k = grind (arith, nat_tests) in
        All-cons P v (set_node vs k new) (other v differs) rest

-- ---- the focus's place

module _ (d : List Extent) (ns : List KeptNode) (count focus : ℕ) (store : List Extent) (place : ℕ) (kept : IsKept d ns count focus store) (p : IsPlace ns place focus) (is_open : (node_at (nodes_over d ns) focus).status ≡ Open) where
  raw_open : (node_at ns focus).status ≡ Open
  raw_open = sym (status_at (λ _. d) ns focus) ∙ is_open

  pub focus_store : store ≡ (node_at (nodes_over d ns) focus).store
  focus_store = held_at (nodes_over d ns) focus store kept.held (open_takes (node_at (nodes_over d ns) focus).status is_open)

  pub focus_width : length store ≡ length d
  focus_width = ap (λ (s : List Extent). length s) (focus_store ∙ ap (λ (n : NodeView). n.store) (found_over d ns place focus kept.rising p)) ∙ width_at d ns place p.within

  -- what the node at the place needs of the model, for a floor to be raised
  pub focus_ready : (m : FlatModel) → All (λ (n : NodeView). IsNodeOf m n) (nodes_over d ns) → IsStoreOf m store × (length (at_place ns place).floors ≡ length m.goals)
  focus_ready m nodes =
      let node = all_at (λ (n : NodeView). IsNodeOf m n) (nodes_over d ns) focus nodes (open_takes (node_at (nodes_over d ns) focus).status is_open) in
      (rw focus_store node.store, ap (λ (fs : List (ℤ × ℤ)). length fs) (floors_found d ns place focus kept.rising p) ∙ node.floors)

  -- ---- narrowed

  narrowed_as : (ls : List Literal) → with_narrowed ns place ls ≡ set_node ns focus (narrowed_node (node_at ns focus) ls)
  narrowed_as ls = rw (node_at_place ns place focus kept.rising p, set_node_place ns place focus (narrowed_node (at_place ns place) ls) kept.rising p) refl

  pub narrowed_is : (ls : List Literal) → nodes_over d (with_narrowed ns place ls) ≡ set_node (nodes_over d ns) focus (narrowed_view (node_at (nodes_over d ns) focus) ls)
  narrowed_is ls = ap (λ (ks : List KeptNode). nodes_over d ks) (narrowed_as ls) ∙ narrow_of (λ _. d) ns focus ls (open_childless ns focus raw_open kept.childless)

  -- What is kept holds after it: number, parent and status of the node stay, so that order and childlessness do; its literals are
  -- known since those that join are; and the store that is held is the focus's, which no other node has as its number.
  pub narrowed_kept : (ls : List Literal) → AreKnown (length store) ls → IsKept d (with_narrowed ns place ls) count focus (narrow_all store ls)
  narrowed_kept ls known =
      let new = narrowed_node (node_at ns focus) ls in
      let more : AreKnown (length d) ls = rw focus_width at known in
      let K : KeptNode → Type 0 = λ n. IsNodeKnown (length d) n in
      rw (narrowed_as ls) (record {
        rising = pairs_set (λ (n k : KeptNode). n.number < k.number) ns focus new (λ n lt. lt) (λ n lt. lt) kept.rising;
        below = all_set (λ (n : KeptNode). n.number < count) ns focus new (λ lt. lt) kept.below;
        childless = pairs_set (λ (n k : KeptNode). IsNotUnder n k) ns focus new (λ n f. f) (λ n f. f) kept.childless;
        known = all_set K ns focus new (λ h. record { literals = All-append (λ (l : Literal). l.var < length d) (node_at ns focus).store ls h.literals more; status = h.status }) kept.known;
        held = held;
      })
    where
      P : NodeView → Type 0
      P = IsHeld focus (narrow_all store ls)

      held : All P (nodes_over d (set_node ns focus (narrowed_node (node_at ns focus) ls)))
      held =
          let old = node_at (nodes_over d ns) focus in
          let same : (narrowed_view old ls).store ≡ narrow_all store ls = ap (λ (s : List Extent). narrow_all s ls) (sym focus_store) in
          rw (narrow_of (λ _. d) ns focus ls (open_childless ns focus raw_open kept.childless)) (all_set_other P (nodes_over d ns) focus (narrowed_view old ls) (rising_of (λ _. d) ns kept.rising) (λ e. same) (λ v other e. absurd (other e)))

  -- ---- a floor raised

  module _ (m : FlatModel) where
    abbrev floors : List (ℤ × ℤ)
    floors = raised_first m.goals store (node_at ns focus).floors

    raised_as : with_raised m store ns place ≡ set_node ns focus (record (node_at ns focus) { floors = floors })
    raised_as = rw (node_at_place ns place focus kept.rising p, set_node_place ns place focus (raised_node m store (at_place ns place)) kept.rising p) refl

    nodes_raised : nodes_over d (with_raised m store ns place) ≡ set_node (nodes_over d ns) focus (record (node_at (nodes_over d ns) focus) { floors = floors })
    nodes_raised = ap (λ (ks : List KeptNode). nodes_over d ks) raised_as ∙ raise_of (λ _. d) ns focus floors

    pub raised_is : nodes_over d (with_raised m store ns place) ≡ set_node (nodes_over d ns) focus (record (node_at (nodes_over d ns) focus) { floors = raised_first m.goals (node_at (nodes_over d ns) focus).store (node_at (nodes_over d ns) focus).floors })
    raised_is =
        let old = node_at (nodes_over d ns) focus in
        let same : floors ≡ raised_first m.goals old.store old.floors = ap (λ (s : List Extent). raised_first m.goals s (node_at ns focus).floors) focus_store ∙ ap (λ (fs : List (ℤ × ℤ)). raised_first m.goals old.store fs) (sym (floors_at (λ _. d) ns focus)) in
        nodes_raised ∙ ap (λ (fs : List (ℤ × ℤ)). set_node (nodes_over d ns) focus (record old { floors = fs })) same

    -- Floors alone change, and nothing of what is kept speaks of them.
    pub raised_kept : IsKept d (with_raised m store ns place) count focus store
    raised_kept =
        let new : KeptNode = record (node_at ns focus) { floors = floors } in
        let view : NodeView = record (node_at (nodes_over d ns) focus) { floors = floors } in
        let held : All (IsHeld focus store) (nodes_over d (set_node ns focus new)) = rw (raise_of (λ _. d) ns focus floors) (all_set (IsHeld focus store) (nodes_over d ns) focus view (λ h. h) kept.held) in
        rw raised_as (record {
          rising = pairs_set (λ (n k : KeptNode). n.number < k.number) ns focus new (λ n lt. lt) (λ n lt. lt) kept.rising;
          below = all_set (λ (n : KeptNode). n.number < count) ns focus new (λ lt. lt) kept.below;
          childless = pairs_set (λ (n k : KeptNode). IsNotUnder n k) ns focus new (λ n f. f) (λ n f. f) kept.childless;
          known = all_set (λ (n : KeptNode). IsNodeKnown (length d) n) ns focus new (λ h. record { literals = h.literals; status = h.status }) kept.known;
          held = held;
        })

-- ---- the focus is narrowed, then closed

-- what stood in a node's place goes with it
without_set : (ns : List NodeView) (k : ℕ) (new : NodeView) → new.number ≡ (node_at ns k).number → without_node (set_node ns k new) k ≡ without_node ns k
without_set [] k new e = refl
without_set (n ∷ ns) k new e = by_test (n.number == k) refl e (without_set ns k new)
  where
    by_test : (b : Bool) → (n.number == k) ≡ b → new.number ≡ (cond b n (node_at ns k)).number → (new.number ≡ (node_at ns k).number → without_node (set_node ns k new) k ≡ without_node ns k) → without_node (cond b (new ∷ ns) (n ∷ set_node ns k new)) k ≡ cond b ns (n ∷ without_node ns k)
    by_test true e number rest =
        let here : (new.number == k) ≡ true = rw number e in
        rw here refl
    by_test false e number rest = rw (e, rest number) refl

pub closed_after : (ns : List NodeView) (k : ℕ) (new : NodeView) → new.number ≡ (node_at ns k).number → pruned (without_node (set_node ns k new) k) ≡ pruned (without_node ns k)
closed_after ns k new e = ap (λ (vs : List NodeView). pruned vs) (without_set ns k new e)

-- the node in a node's place is found by its number
pub node_at_set : (ns : List NodeView) (k : ℕ) (new : NodeView) → (node_at ns k).status ≡ Open → new.number ≡ (node_at ns k).number → node_at (set_node ns k new) k ≡ new
node_at_set [] k new is_open e = absurd (cc)
node_at_set (n ∷ ns) k new is_open e = by_test (n.number == k) refl is_open e (node_at_set ns k new)
  where
    by_test : (b : Bool) → (n.number == k) ≡ b → (cond b n (node_at ns k)).status ≡ Open → new.number ≡ (cond b n (node_at ns k)).number → ((node_at ns k).status ≡ Open → new.number ≡ (node_at ns k).number → node_at (set_node ns k new) k ≡ new) → node_at (cond b (new ∷ ns) (n ∷ set_node ns k new)) k ≡ new
    by_test true e is_open number rest =
        let here : (new.number == k) ≡ true = rw number e in
        rw here refl
    by_test false e is_open number rest = rw e (rest is_open number)

module _ (t : Tree) (ls : List Literal) (is_open : (focus_of t).status ≡ Open) where
  abbrev narrowed_tree : Tree
  narrowed_tree = with_focus t (narrowed_focus ls t)

  found : focus_of narrowed_tree ≡ narrowed_focus ls t
  found = node_at_set t.nodes t.focus (narrowed_focus ls t) is_open refl

  pub narrowed_open : (focus_of (with_focus t (narrowed_focus ls t))).status ≡ Open
  narrowed_open = ap (λ (n : NodeView). n.status) found ∙ is_open

  pub narrowed_pruned : pruned t.nodes ≡ t.nodes → pruned (with_focus t (narrowed_focus ls t)).nodes ≡ (with_focus t (narrowed_focus ls t)).nodes
  narrowed_pruned e = kept_from_needed (set_node t.nodes t.focus (narrowed_focus ls t)) (needed_set t.nodes t.focus (narrowed_focus ls t) (open_not_split (focus_of t).status is_open) refl (needed_from_kept t.nodes e))

  empty_same : has_empty (focus_of (with_focus t (narrowed_focus ls t))).store ≡ has_empty (narrow_all (focus_of t).store ls)
  empty_same = ap (λ (n : NodeView). has_empty n.store) found

  pub emptied : has_empty (focus_of (with_focus t (narrowed_focus ls t))).store ≡ true → close_focus (with_focus t (narrowed_focus ls t)) ≡ narrow_focus ls t
  emptied e =
      let empty : has_empty (narrow_all (focus_of t).store ls) ≡ true = sym empty_same ∙ e in
      rw empty (ap (λ (vs : List NodeView). record t { nodes = vs }) (closed_after t.nodes t.focus (narrowed_focus ls t) refl))

  pub filled : has_empty (focus_of (with_focus t (narrowed_focus ls t))).store ≡ false → with_focus t (narrowed_focus ls t) ≡ narrow_focus ls t
  filled e =
      let some : has_empty (narrow_all (focus_of t).store ls) ≡ false = sym empty_same ∙ e in
      rw some refl

-- ---- a store without a value for some variable

empty_test : (vs : List ℤ) → vs ≡ [] → is_empty vs ≡ true
empty_test [] e = refl
empty_test (v ∷ vs) e = absurd (cc)

empty_from : (vs : List ℤ) → is_empty vs ≡ true → vs ≡ []
empty_from [] e = refl
empty_from (v ∷ vs) e = absurd (cc)

same_tests : (r b : Bool) → (r ≡ true → b ≡ true) → (b ≡ true → r ≡ true) → r ≡ b
same_tests true b there back = sym (there refl)
same_tests false true there back = back refl
same_tests false false there back = refl

pub empty_where : (store : List Extent) (r : Bool) → IsTrue r ↔ Any (λ (e : Extent). e.values ≡ []) store → r ≡ has_empty store
empty_where store r h =
    let p : Extent → Bool = λ e. is_empty e.values in
    let there : r ≡ true → has_empty store ≡ true = λ t. let at = h.0 t in list_any-from_Any p store (at.0, at.1, at.2, at.3, empty_test at.1.values at.4) in
    let back : has_empty store ≡ true → r ≡ true = λ e. let at = Any-from_list_any p store e in h.1 (at.0, at.1, at.2, at.3, empty_from at.1.values at.4) in
    same_tests r (has_empty store) there back
