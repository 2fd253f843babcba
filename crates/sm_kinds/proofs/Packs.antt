-- One item more of those whose costs add up to a total, and the capacities of groups by number.
use Rattle.std.proofs.Common.{◌≡◌, ℕ, ◌+◌, ◌<◌, ◌↔◌, List, ◌∷◌, length, get_or, drop, map, suc, arith, subst, sym, ap, ◌∙◌}
use Rattle.std.proofs.Math.Seq.{drop-cons}
use Rattle.std.specs.Prelude.{ℤ, pos, ◌≤ℤ◌, Some, slice_get}
use Rattle.std.proofs.lemmas.Option.{get_or_from_slice_get, slice_get_within, slice_get-get_or}
use Rattle.sm_kinds.specs.Choices.{AddUpTo}
use Rattle.sm_kinds.specs.Packing.{item_pick}
use Rattle.sm_kinds.specs.Points.{Point, HasValue}
use Rattle.sm_kinds.specs.declared.packing.Item.{Item}

-- the item x at i stands before those after it
pub drop_item : (items : List Item) (i : ℕ) (x : Item) → i < length items → x ≡ get_or items i x → drop i items ≡ x ∷ drop (i + 1) items
drop_item items i x lt is =
    let next : suc i ≡ i + 1 = omega arith in
    subst (λ n. drop i items ≡ x ∷ drop n items) next (drop-cons items i x lt ∙ ap (λ (y : Item). y ∷ drop (suc i) items) (sym is))

module _ (a : Point) where
  -- the items from i on, at what is left before the item at i
  abbrev pub FromItem : List Item → ℕ → ℤ → Type 0
  FromItem items i rest = AddUpTo a (map item_pick (drop i items)) rest

  -- what adds up from the item x on adds up after it to what its cost leaves
  pub after_item : (items : List Item) (i : ℕ) (x : Item) (rest left left' : ℤ) (All' : Type 0) → i < length items → x ≡ get_or items i x → ((ps : List (ℕ × List ℤ)) → AddUpTo a ps left ↔ AddUpTo a (item_pick x ∷ ps) rest) → left' ≡ left → FromItem items i rest ↔ All' → FromItem items (i + 1) left' ↔ All'
  after_item items i x rest left left' All' lt is same e sofar =
      let cut = drop_item items i x lt is in
      let more = same (map item_pick (drop (i + 1) items)) in (
        (λ k. sofar.0 (subst (λ (xs : List Item). AddUpTo a (map item_pick xs) rest) (sym cut) (more.0 (subst (λ r. FromItem items (i + 1) r) e k)))),
        (λ k. subst (λ r. FromItem items (i + 1) r) (sym e) (more.1 (subst (λ (xs : List Item). AddUpTo a (map item_pick xs) rest) cut (sofar.1 k)))),
      )

  -- an item in no group adds up with none
  pub no_item : (items : List Item) (i : ℕ) (x : Item) (rest : ℤ) (All' : Type 0) → i < length items → x ≡ get_or items i x → (((j : ℕ) × (j < length x.costs) × HasValue a x.group (pos j)) → ⊥) → FromItem items i rest ↔ All' → All' → ⊥
  no_item items i x rest All' lt is out sofar k =
      let here : AddUpTo a (map item_pick (x ∷ drop (i + 1) items)) rest = subst (λ (xs : List Item). AddUpTo a (map item_pick xs) rest) (drop_item items i x lt is) (sofar.1 k) in
      out (here.0, here.1, here.2)

  -- the costs of an item, by what reads them
  pub at_costs : (v : ℕ) (costs read : List ℤ) (total total' : ℤ) → read ≡ costs → total' ≡ total → (r : ℤ) → ((ps : List (ℕ × List ℤ)) → AddUpTo a ps r ↔ AddUpTo a ((v, read) ∷ ps) total') → (ps : List (ℕ × List ℤ)) → AddUpTo a ps r ↔ AddUpTo a ((v, costs) ∷ ps) total
  at_costs v costs read total total' e f r = subst (λ n. ((ps : List (ℕ × List ℤ)) → AddUpTo a ps r ↔ AddUpTo a ((v, read) ∷ ps) n) → (ps : List (ℕ × List ℤ)) → AddUpTo a ps r ↔ AddUpTo a ((v, costs) ∷ ps) total) (sym f) (subst (λ t. ((ps : List (ℕ × List ℤ)) → AddUpTo a ps r ↔ AddUpTo a ((v, read) ∷ ps) total) → (ps : List (ℕ × List ℤ)) → AddUpTo a ps r ↔ AddUpTo a ((v, t) ∷ ps) total) e (λ k. k))

-- the capacities by number are those that the groups have
pub within_from_each : (xs : List ℤ) (load : ℕ → ℤ) → ((k : ℕ) → k < length xs → load k ≤ℤ get_or xs k (pos 0)) → (k : ℕ) (capacity : ℤ) → slice_get xs k ≡ Some capacity → load k ≤ℤ capacity
within_from_each xs load each k capacity e = subst (λ c. load k ≤ℤ c) (get_or_from_slice_get xs k capacity (pos 0) e) (each k (slice_get_within xs k capacity e))

pub each_from_within : (xs : List ℤ) (load : ℕ → ℤ) → ((k : ℕ) (capacity : ℤ) → slice_get xs k ≡ Some capacity → load k ≤ℤ capacity) → (k : ℕ) → k < length xs → load k ≤ℤ get_or xs k (pos 0)
each_from_within xs load h k lt = h k (get_or xs k (pos 0)) (slice_get-get_or xs k (pos 0) lt)
