-- What holds of all nodes of a list, or of each two, holds where one is changed or some are dropped.
use Rattle.std.proofs.Common.{ℕ, zero, suc, Bool, true, false, cond, List, [], ◌∷◌, arith}
use Rattle.std.specs.Prelude.{◌==◌, All, AllPairs}
use Rattle.std.proofs.lemmas.List.Elements.{All-cons, All-head, All-tail}
use Rattle.std.proofs.lemmas.List.Kept.{AllPairs-cons}
use Rattle.sm_rules.specs.Nodes.{NodeOf}
use Rattle.sm_rules.specs.Trees.{node_at, set_node, without_node, is_done, pruned}

module _ {E : Type 0} where
  pub pairs_tail : (R : NodeOf E → NodeOf E → Type 0) (n : NodeOf E) (ns : List (NodeOf E)) → AllPairs R (n ∷ ns) → AllPairs R ns
  pairs_tail R n ns h i j d lt within = h (suc i) (suc j) d (omega arith) (omega arith)

  pub pairs_head : (R : NodeOf E → NodeOf E → Type 0) (n : NodeOf E) (ns : List (NodeOf E)) → AllPairs R (n ∷ ns) → All (λ (k : NodeOf E). R n k) ns
  pairs_head R n ns h k d within = h zero (suc k) d (omega arith) (omega arith)

  -- ---- one node is changed

  pub all_set : (P : NodeOf E → Type 0) (ns : List (NodeOf E)) (k : ℕ) (new : NodeOf E) → (P (node_at ns k) → P new) → All P ns → All P (set_node ns k new)
  all_set P [] k new f h = h
  all_set P (n ∷ ns) k new f h = by_test (n.number == k) f (All-head P n ns h) (All-tail P n ns h) (λ g. all_set P ns k new g (All-tail P n ns h))
    where
      by_test : (b : Bool) → (P (cond b n (node_at ns k)) → P new) → P n → All P ns → ((P (node_at ns k) → P new) → All P (set_node ns k new)) → All P (cond b (new ∷ ns) (n ∷ set_node ns k new))
      by_test true f here there rest = All-cons P new ns (f here) there
      by_test false f here there rest = All-cons P n (set_node ns k new) here (rest f)

  pub pairs_set : (R : NodeOf E → NodeOf E → Type 0) (ns : List (NodeOf E)) (k : ℕ) (new : NodeOf E) → ((n : NodeOf E) → R (node_at ns k) n → R new n) → ((n : NodeOf E) → R n (node_at ns k) → R n new) → AllPairs R ns → AllPairs R (set_node ns k new)
  pairs_set R [] k new left right h = h
  pairs_set R (n ∷ ns) k new left right h = by_test (n.number == k) left right (pairs_head R n ns h) (pairs_tail R n ns h) (λ left right. pairs_set R ns k new left right (pairs_tail R n ns h))
    where
      all_left : ((m : NodeOf E) → R n m → R new m) → All (λ (m : NodeOf E). R n m) ns → All (λ (m : NodeOf E). R new m) ns
      all_left left h i d within = left _ (h i d within)

      by_test : (b : Bool) → ((m : NodeOf E) → R (cond b n (node_at ns k)) m → R new m) → ((m : NodeOf E) → R m (cond b n (node_at ns k)) → R m new) → All (λ (m : NodeOf E). R n m) ns → AllPairs R ns → (((m : NodeOf E) → R (node_at ns k) m → R new m) → ((m : NodeOf E) → R m (node_at ns k) → R m new) → AllPairs R (set_node ns k new)) → AllPairs R (cond b (new ∷ ns) (n ∷ set_node ns k new))
      by_test true left right above there rest = AllPairs-cons R new ns (all_left left above) there
      by_test false left right above there rest = AllPairs-cons R n (set_node ns k new) (all_set (λ (m : NodeOf E). R n m) ns k new (right n) above) (rest left right)

  -- ---- nodes are dropped

  pub all_pruned : (P : NodeOf E → Type 0) (ns : List (NodeOf E)) → All P ns → All P (pruned ns)
  all_pruned P [] h = h
  all_pruned P (n ∷ ns) h = by_test (is_done n (pruned ns)) (All-head P n ns h) (all_pruned P ns (All-tail P n ns h))
    where
      by_test : (b : Bool) → P n → All P (pruned ns) → All P (cond b (pruned ns) (n ∷ pruned ns))
      by_test true here there = there
      by_test false here there = All-cons P n (pruned ns) here there

  pub pairs_pruned : (R : NodeOf E → NodeOf E → Type 0) (ns : List (NodeOf E)) → AllPairs R ns → AllPairs R (pruned ns)
  pairs_pruned R [] h = h
  pairs_pruned R (n ∷ ns) h = by_test (is_done n (pruned ns)) (all_pruned (λ (m : NodeOf E). R n m) ns (pairs_head R n ns h)) (pairs_pruned R ns (pairs_tail R n ns h))
    where
      by_test : (b : Bool) → All (λ (m : NodeOf E). R n m) (pruned ns) → AllPairs R (pruned ns) → AllPairs R (cond b (pruned ns) (n ∷ pruned ns))
      by_test true above there = there
      by_test false above there = AllPairs-cons R n (pruned ns) above there

  pub all_without : (P : NodeOf E → Type 0) (ns : List (NodeOf E)) (k : ℕ) → All P ns → All P (without_node ns k)
  all_without P [] k h = h
  all_without P (n ∷ ns) k h = by_test (n.number == k) (All-head P n ns h) (All-tail P n ns h) (all_without P ns k (All-tail P n ns h))
    where
      by_test : (b : Bool) → P n → All P ns → All P (without_node ns k) → All P (cond b ns (n ∷ without_node ns k))
      by_test true here there rest = there
      by_test false here there rest = All-cons P n (without_node ns k) here rest

  pub pairs_without : (R : NodeOf E → NodeOf E → Type 0) (ns : List (NodeOf E)) (k : ℕ) → AllPairs R ns → AllPairs R (without_node ns k)
  pairs_without R [] k h = h
  pairs_without R (n ∷ ns) k h = by_test (n.number == k) (all_without (λ (m : NodeOf E). R n m) ns k (pairs_head R n ns h)) (pairs_tail R n ns h) (pairs_without R ns k (pairs_tail R n ns h))
    where
      by_test : (b : Bool) → All (λ (m : NodeOf E). R n m) (without_node ns k) → AllPairs R ns → AllPairs R (without_node ns k) → AllPairs R (cond b ns (n ∷ without_node ns k))
      by_test true above there rest = there
      by_test false above there rest = AllPairs-cons R n (without_node ns k) above rest
