-- What is left where a node is dropped, and with it each node above whose own tree is refuted then.
use Rattle.std.proofs.Common.{◌≡◌, ◌≢◌, ℕ, zero, suc, ◌+◌, ◌<◌, ◌≤◌, Bool, true, false, cond, not, ◌&&◌, List, [], ◌∷◌, length, drop, get_or, refl, arith, sym, ◌∙◌, ap, inl, inr, Option, Some, None}
use Rattle.std.specs.Prelude.{◌==◌, All, remove, IfSome, IfNone}
use Rattle.std.proofs.lemmas.Bool.Decides.{nat_tests}
use Rattle.std.proofs.lemmas.Bool.{cases_eq}
use Rattle.std.proofs.lemmas.List.Quantifiers.{all_pairs_remove}
use Rattle.sm_rules.specs.Nodes.{NodeOf, no_node, is_split}
use Rattle.sm_rules.specs.Trees.{has_no_child, is_done, pruned, without_node}
use Rattle.sm_rules.specs.Places.{AreRising, IsPlace, at_place}
use Rattle.sm_rules.proofs.Places.{rising_tail, rising_head, place_later, without_node_place, at_read}

false_not_true : (b : Bool) → b ≡ false → b ≡ true → ⊥
false_not_true b e f = cc

and_left : (a b : Bool) → (a && b) ≡ true → a ≡ true
and_left true b e = refl
and_left false b e = e

and_right : (a b : Bool) → (a && b) ≡ true → b ≡ true
and_right true b e = e
and_right false b e = absurd (cc)

and_both : (a b : Bool) → a ≡ true → b ≡ true → (a && b) ≡ true
and_both a b e f = rw (e, f) refl

module _ {E : Type 0} where
  -- each node has fewer than two children, or one that is left
  abbrev pub AllNeeded : List (NodeOf E) → Type 0
  AllNeeded [] = Unit {0}
  AllNeeded (n ∷ ns) = (is_done n ns ≡ false) × AllNeeded ns

  -- each but the node of this number
  abbrev pub AllBut : ℕ → List (NodeOf E) → Type 0
  AllBut k [] = Unit {0}
  AllBut k (n ∷ ns) = (n.number ≢ k → is_done n ns ≡ false) × AllBut k ns

  -- ---- pruned nodes

  pub length-pruned : (ns : List (NodeOf E)) → length (pruned ns) ≤ length ns
  length-pruned [] = omega arith
  length-pruned (n ∷ ns) = by_test (is_done n (pruned ns)) (length-pruned ns)
    where
      by_test : (b : Bool) → length (pruned ns) ≤ length ns → length (cond b (pruned ns) (n ∷ pruned ns)) ≤ suc (length ns)
      by_test true h = omega arith
      by_test false h = omega arith

  tail_same : (n : NodeOf E) (xs ys : List (NodeOf E)) → n ∷ xs ≡ n ∷ ys → xs ≡ ys
  tail_same n xs ys e = cc

  -- where nothing is pruned each node is needed
  pub needed_from_kept : (ns : List (NodeOf E)) → pruned ns ≡ ns → AllNeeded ns
  needed_from_kept [] e = tt
  needed_from_kept (n ∷ ns) e = by_test (is_done n (pruned ns)) refl e (needed_from_kept ns)
    where
      by_test : (b : Bool) → is_done n (pruned ns) ≡ b → cond b (pruned ns) (n ∷ pruned ns) ≡ n ∷ ns → (pruned ns ≡ ns → AllNeeded ns) → (is_done n ns ≡ false) × AllNeeded ns
      by_test true is h rest = absurd (omega (arith, ap (λ (xs : List (NodeOf E)). length xs) h, length-pruned ns))
      by_test false is h rest = let same = tail_same n (pruned ns) ns h in (rw same at is, rest same)

  -- and the other way
  pub kept_from_needed : (ns : List (NodeOf E)) → AllNeeded ns → pruned ns ≡ ns
  kept_from_needed [] h = refl
  kept_from_needed (n ∷ ns) h = rw (kept_from_needed ns h.1, h.0) refl

  pub pruned_needed : (ns : List (NodeOf E)) → AllNeeded (pruned ns)
  pruned_needed [] = tt
  pruned_needed (n ∷ ns) = by_test (is_done n (pruned ns)) refl (pruned_needed ns)
    where
      by_test : (b : Bool) → is_done n (pruned ns) ≡ b → AllNeeded (pruned ns) → AllNeeded (cond b (pruned ns) (n ∷ pruned ns))
      by_test true is h = h
      by_test false is h = (is, h)

  pub pruned-pruned : (ns : List (NodeOf E)) → pruned (pruned ns) ≡ pruned ns
  pruned-pruned ns = kept_from_needed (pruned ns) (pruned_needed ns)

  -- ---- fewer nodes after one have no more children of it

  no_child_pruned : (k : ℕ) (ns : List (NodeOf E)) → has_no_child k ns ≡ true → has_no_child k (pruned ns) ≡ true
  no_child_pruned k [] h = h
  no_child_pruned k (n ∷ ns) h = by_test (is_done n (pruned ns)) (and_left (not (n.parent == k)) (has_no_child k ns) h) (no_child_pruned k ns (and_right (not (n.parent == k)) (has_no_child k ns) h))
    where
      by_test : (b : Bool) → not (n.parent == k) ≡ true → has_no_child k (pruned ns) ≡ true → has_no_child k (cond b (pruned ns) (n ∷ pruned ns)) ≡ true
      by_test true other h = h
      by_test false other h = and_both (not (n.parent == k)) (has_no_child k (pruned ns)) other h

  done_pruned : (n : NodeOf E) (ns : List (NodeOf E)) → is_done n ns ≡ true → is_done n (pruned ns) ≡ true
  done_pruned n ns h = and_both (is_split n.status) (has_no_child n.number (pruned ns)) (and_left (is_split n.status) (has_no_child n.number ns) h) (no_child_pruned n.number ns (and_right (is_split n.status) (has_no_child n.number ns) h))

  -- a node that is done can be dropped first
  pub pruned-remove : (ns : List (NodeOf E)) (i : ℕ) → i < length ns → is_done (at_place ns i) (drop (i + 1) ns) ≡ true → pruned (remove ns i) ≡ pruned ns
  pruned-remove [] i lt h = absurd (omega arith)
  pruned-remove (n ∷ ns) zero lt h = let h' : is_done n ns ≡ true = h in rw (done_pruned n ns h') refl
  pruned-remove (n ∷ ns) (suc i) lt h =
      let e : suc i + 1 ≡ suc (i + 1) = omega arith in
      let h' : is_done (at_place ns i) (drop (i + 1) ns) ≡ true = rw e at h in
      rw (pruned-remove ns i (omega arith) h') refl

  -- ---- all but one

  pub but_from_needed : (k : ℕ) (ns : List (NodeOf E)) → AllNeeded ns → AllBut k ns
  but_from_needed k [] h = tt
  but_from_needed k (n ∷ ns) h = (λ _. h.0, but_from_needed k ns h.1)

  needed_past : (k : ℕ) (ns : List (NodeOf E)) → All (λ (n : NodeOf E). k < n.number) ns → AllBut k ns → AllNeeded ns
  needed_past k [] above h = tt
  needed_past k (n ∷ ns) above h =
      let lt : k < n.number = above zero n (omega arith) in
      (h.0 (λ e. absurd (omega arith)), needed_past k ns (λ i d within. above (suc i) d (omega arith)) h.1)

  other_parent : (n m : NodeOf E) → n.number ≢ m.parent → not (m.parent == n.number) ≡ true
  other_parent n m e = grind (arith, nat_tests)

  -- a list whose member at i isn't a child has one exactly where the rest has
  no_child-remove : (k : ℕ) (ns : List (NodeOf E)) (i : ℕ) → i < length ns → not ((at_place ns i).parent == k) ≡ true → has_no_child k (remove ns i) ≡ has_no_child k ns
  no_child-remove k [] i lt h = absurd (omega arith)
  no_child-remove k (n ∷ ns) zero lt h = rw h refl
  no_child-remove k (n ∷ ns) (suc i) lt h = ap (λ (b : Bool). not (n.parent == k) && b) (no_child-remove k ns i (omega arith) h)

  done-remove : (n : NodeOf E) (ns : List (NodeOf E)) (i : ℕ) → i < length ns → n.number ≢ (at_place ns i).parent → is_done n (remove ns i) ≡ is_done n ns
  done-remove n ns i lt e = ap (λ (b : Bool). is_split n.status && b) (no_child-remove n.number ns i lt (other_parent n (at_place ns i) e))

  -- without the one that may not be needed, only its parent may not be
  pub but_remove : (ns : List (NodeOf E)) (i : ℕ) → i < length ns → AreRising ns → AllBut (at_place ns i).number ns → AllBut (at_place ns i).parent (remove ns i)
  but_remove [] i lt rising h = absurd (omega arith)
  but_remove (n ∷ ns) zero lt rising h = but_from_needed n.parent ns (needed_past n.number ns (rising_head n ns rising) h.1)
  but_remove (n ∷ ns) (suc i) lt rising h =
      let below : n.number < (at_place ns i).number = rising_head n ns rising i no_node (omega arith) in
      let needed : is_done n ns ≡ false = h.0 (λ e. absurd (omega arith)) in
      (λ other. done-remove n ns i (omega arith) other ∙ needed, but_remove ns i (omega arith) (rising_tail n ns rising) h.1)

  pub needed_from_but : (k : ℕ) (ns : List (NodeOf E)) → AllBut k ns → ((i : ℕ) → IsPlace ns i k → is_done (at_place ns i) (drop (i + 1) ns) ≡ false) → AllNeeded ns
  needed_from_but k [] h at = tt
  needed_from_but k (n ∷ ns) h at = (
    elim (cases_eq n.number k) [
      | inl same ↦ at zero (record { within = omega arith; here = same })
      | inr other ↦ h.0 other
    ],
    needed_from_but k ns h.1 (λ i p.
        let e : suc i + 1 ≡ suc (i + 1) = omega arith in
        let x = at (suc i) (place_later n ns i k p) in
        rw e at x),
  )

  -- ---- the loop

  -- nothing is left to drop and the target stands there, or pruning what stands there without the node at a place gives the target
  abbrev pub Refutes : List (NodeOf E) → List (NodeOf E) → Option ℕ → Type 0
  Refutes target ns None = ns ≡ target
  Refutes target ns (Some i) = (i < length ns) × AllBut (at_place ns i).number ns × (pruned (remove ns i) ≡ target)

  -- what is known of the next place
  abbrev pub IsNextPlace : List (NodeOf E) → ℕ → Option ℕ → Type 0
  IsNextPlace ns k None = (i : ℕ) → IsPlace ns i k → is_done (at_place ns i) (drop (i + 1) ns) ≡ false
  IsNextPlace ns k (Some i) = IsPlace ns i k × (is_done (at_place ns i) (drop (i + 1) ns) ≡ true)

  pub refutes_first : (ns : List (NodeOf E)) (i : ℕ) → i < length ns → AreRising ns → pruned ns ≡ ns → Refutes (pruned (without_node ns (at_place ns i).number)) ns (Some i)
  refutes_first ns i lt rising kept = (lt, but_from_needed (at_place ns i).number ns (needed_from_kept ns kept), ap pruned (sym (without_node_place ns i (at_place ns i).number rising (record { within = lt; here = refl }))))

  pub refutes_next : (target ns : List (NodeOf E)) (i : ℕ) (next : Option ℕ) → AreRising ns → Refutes target ns (Some i) → IsNextPlace (remove ns i) (at_place ns i).parent next → Refutes target (remove ns i) next
  refutes_next target ns i None rising h at = sym (kept_from_needed (remove ns i) (needed_from_but (at_place ns i).parent (remove ns i) (but_remove ns i h.0 rising h.1) at)) ∙ h.2
  refutes_next target ns i (Some j) rising h at =
      let but = but_remove ns i h.0 rising h.1 in
      (at.0.within, rw at.0.here but, pruned-remove (remove ns i) j at.0.within at.1 ∙ h.2)

  pub rising_remove : (ns : List (NodeOf E)) (i : ℕ) → i < length ns → AreRising ns → AreRising (remove ns i)
  rising_remove ns i lt h = all_pairs_remove (λ (n k : NodeOf E). n.number < k.number) ns i lt h

  next_place : (ns : List (NodeOf E)) (k : ℕ) (next : Option ℕ) → IfSome next (λ j. IsPlace ns j k × (is_done (at_place ns j) (drop (j + 1) ns) ≡ true)) → IfNone next ((i : ℕ) → IsPlace ns i k → is_done (at_place ns i) (drop (i + 1) ns) ≡ false) → IsNextPlace ns k next
  next_place ns k None some none = none
  next_place ns k (Some j) some none = some

  -- one turn of the loop
  pub refutes_step : (target ns new : List (NodeOf E)) (i parent : ℕ) (removed : NodeOf E) (old next : Option ℕ) → AreRising ns → Refutes target ns old → old ≡ Some i → new ≡ remove ns i → removed ≡ get_or ns i removed → parent ≡ removed.parent → IfSome next (λ j. IsPlace new j parent × (is_done (at_place new j) (drop (j + 1) new) ≡ true)) → IfNone next ((j : ℕ) → IsPlace new j parent → is_done (at_place new j) (drop (j + 1) new) ≡ false) → AreRising new × Refutes target new next
  refutes_step target ns new i parent removed old next rising refutes is made read of some none =
      let here : Refutes target ns (Some i) = rw is at refutes in
      let from : parent ≡ (at_place ns i).parent = of ∙ sym (ap (λ (n : NodeOf E). n.parent) (at_read ns i removed here.0 read)) in
      let at : IsNextPlace (remove ns i) (at_place ns i).parent next = rw (from, made) at (next_place new parent next some none) in
      rw made (rising_remove ns i here.0 rising, refutes_next target ns i next rising here at)
