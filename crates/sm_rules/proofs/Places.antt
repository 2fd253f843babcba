-- Nodes by number and by place.
use Rattle.std.proofs.Common.{◌≡◌, ◌≢◌, ℕ, zero, suc, ◌+◌, ◌<◌, ◌≤◌, true, false, List, [], ◌∷◌, length, set, get_or, refl, arith, ap, sym, ◌∙◌, inl, inr}
use Rattle.std.specs.Prelude.{◌==◌, All, remove}
use Rattle.std.proofs.lemmas.Bool.Decides.{nat_tests}
use Rattle.std.proofs.lemmas.Bool.{cases_eq, cases_lt}
use Rattle.std.proofs.lemmas.List.{get_or_default}
use Rattle.std.proofs.lemmas.List.Elements.{All-tail}
use Rattle.sm_rules.specs.Nodes.{NodeOf, no_node}
use Rattle.sm_rules.specs.Trees.{node_at, set_node, without_node}
use Rattle.sm_rules.specs.Places.{AreRising, IsPlace, at_place}

pub same_number : (a b : ℕ) → a ≡ b → (a == b) ≡ true
same_number a b e = grind (arith, nat_tests)

pub other_number : (a b : ℕ) → a ≢ b → (a == b) ≡ false
other_number a b e = grind (arith, nat_tests)

module _ {E : Type 0} where
  pub rising_tail : (n : NodeOf E) (ns : List (NodeOf E)) → AreRising (n ∷ ns) → AreRising ns
  rising_tail n ns h i j d lt within = h (suc i) (suc j) d (omega arith) (omega arith)

  -- the first number is below each later one
  pub rising_head : (n : NodeOf E) (ns : List (NodeOf E)) → AreRising (n ∷ ns) → All (λ (k : NodeOf E). n.number < k.number) ns
  rising_head n ns h k d within = h zero (suc k) d (omega arith) (omega arith)

  place_tail : (n : NodeOf E) (ns : List (NodeOf E)) (i k : ℕ) → IsPlace (n ∷ ns) (suc i) k → IsPlace ns i k
  place_tail n ns i k p = record { within = let w = p.within in omega arith; here = p.here }

  pub place_later : (n : NodeOf E) (ns : List (NodeOf E)) (i k : ℕ) → IsPlace ns i k → IsPlace (n ∷ ns) (suc i) k
  place_later n ns i k p = record { within = let w = p.within in omega arith; here = p.here }

  -- a node before the place has another number
  before_place : (n : NodeOf E) (ns : List (NodeOf E)) (i k : ℕ) → AreRising (n ∷ ns) → IsPlace ns i k → (n.number == k) ≡ false
  before_place n ns i k h p =
      let below : n.number < (at_place ns i).number = rising_head n ns h i no_node p.within in
      let here = p.here in
      other_number n.number k (λ e. absurd (omega arith))

  pub node_at_place : (ns : List (NodeOf E)) (i k : ℕ) → AreRising ns → IsPlace ns i k → node_at ns k ≡ at_place ns i
  node_at_place [] i k h p = absurd (let w = p.within in omega arith)
  node_at_place (n ∷ ns) zero k h p = rw (same_number n.number k p.here) refl
  node_at_place (n ∷ ns) (suc i) k h p =
      let there = place_tail n ns i k p in
      rw (before_place n ns i k h there) (node_at_place ns i k (rising_tail n ns h) there)

  pub set_node_place : (ns : List (NodeOf E)) (i k : ℕ) (new : NodeOf E) → AreRising ns → IsPlace ns i k → set_node ns k new ≡ set ns i new
  set_node_place [] i k new h p = absurd (let w = p.within in omega arith)
  set_node_place (n ∷ ns) zero k new h p = rw (same_number n.number k p.here) refl
  set_node_place (n ∷ ns) (suc i) k new h p =
      let there = place_tail n ns i k p in
      rw (before_place n ns i k h there, set_node_place ns i k new (rising_tail n ns h) there) refl

  pub without_node_place : (ns : List (NodeOf E)) (i k : ℕ) → AreRising ns → IsPlace ns i k → without_node ns k ≡ remove ns i
  without_node_place [] i k h p = absurd (let w = p.within in omega arith)
  without_node_place (n ∷ ns) zero k h p = rw (same_number n.number k p.here) refl
  without_node_place (n ∷ ns) (suc i) k h p =
      let there = place_tail n ns i k p in
      rw (before_place n ns i k h there, without_node_place ns i k (rising_tail n ns h) there) refl

  -- where no node has the number
  pub node_at_none : (ns : List (NodeOf E)) (k : ℕ) → All (λ (n : NodeOf E). n.number ≢ k) ns → node_at ns k ≡ no_node
  node_at_none [] k h = refl
  node_at_none (n ∷ ns) k h = rw (other_number n.number k (h zero n (omega arith))) (node_at_none ns k (All-tail (λ (m : NodeOf E). m.number ≢ k) n ns h))

  -- the node that was read at a place
  pub at_read : (ns : List (NodeOf E)) (i : ℕ) (x : NodeOf E) → i < length ns → x ≡ get_or ns i x → at_place ns i ≡ x
  at_read ns i x lt e = get_or_default ns i no_node x lt ∙ sym e

  -- ---- bisection

  up_to : (ns : List (NodeOf E)) (i k : ℕ) → AreRising ns → i < length ns → k < i + 1 → (at_place ns k).number ≤ (at_place ns i).number
  up_to ns i k h lt le = elim (cases_eq k i) [
    | inl same ↦ rw same (omega arith)
    | inr other ↦ let below : (at_place ns k).number < (at_place ns i).number = h k i no_node (omega arith) lt in omega arith
  ]

  pub low_moves : (ns : List (NodeOf E)) (i number : ℕ) → AreRising ns → i < length ns → (at_place ns i).number < number → (k : ℕ) → k < i + 1 → (at_place ns k).number < number
  low_moves ns i number h lt less k le = let up = up_to ns i k h lt le in omega arith

  pub high_moves : (ns : List (NodeOf E)) (i number : ℕ) → AreRising ns → i < length ns → number < (at_place ns i).number → (k : ℕ) → i ≤ k → k < length ns → number < (at_place ns k).number
  high_moves ns i number h lt less k le within = let up = up_to ns k i h within (omega arith) in omega arith

  pub none_between : (ns : List (NodeOf E)) (low high number : ℕ) → high ≤ low → ((k : ℕ) → k < low → (at_place ns k).number < number) → ((k : ℕ) → high ≤ k → k < length ns → number < (at_place ns k).number) → All (λ (n : NodeOf E). n.number ≢ number) ns
  none_between ns low high number le below above k d within same =
      let at : (get_or ns k d).number ≡ (at_place ns k).number = ap (λ (n : NodeOf E). n.number) (get_or_default ns k d no_node within) in
      elim (cases_lt k low) [
        | inl lt ↦ let b = below k lt in absurd (omega arith)
        | inr ge ↦ let a = above k (omega arith) within in absurd (omega arith)
      ]
