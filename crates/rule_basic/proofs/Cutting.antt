-- What a literal cuts, told by the ends of what its complement leaves.
use Rattle.std.proofs.Common.{◌≡◌, ◌≢◌, ℕ, ◌-◌, ◌<◌, Bool, true, false, cond, not, List, [], ◌∷◌, length, get_or, refl, arith, sym, ◌∙◌, inl, inr, ◌⊎◌}
use Rattle.std.specs.Prelude.{ℤ, pos, ◌+ℤ◌, ◌-ℤ◌, ◌*ℤ◌, ◌<ℤ◌, ◌≤ℤ◌, int_le, filter, ◌↔◌, IsTrue}
use Rattle.std.specs.Int.{int_max, int_min}
use Rattle.std.specs.Ordering.{int_eq}
use Rattle.std.proofs.lemmas.Int.{ints, clamps}
use Rattle.std.proofs.lemmas.List.Elements.{filter_passes}
use Rattle.sm_kinds.specs.declared.literal.Literal.{Literal}
use Rattle.sm_kinds.specs.declared.literal.Test.{Test}
use Rattle.sm_kinds.specs.declared.literal.Test.TheVariants.{AtMost, AtLeast, Equal, Unequal}
use Rattle.sm_kinds.specs.declared.var.VarKind.{VarKind}
use Rattle.sm_kinds.specs.declared.var.VarKind.TheVariants.{Set, Int, Real}
use Rattle.sm_kinds.specs.Literals.{passes, passes_test, complement}
use Rattle.sm_kinds.specs.Vars.{LiesIn}
use Rattle.sm_store.specs.Stores.{Extent, extent_at, kept, narrowed, least_of, greatest_of, IsOrdered, range, cut_range, kept_range}
use Rattle.sm_store.proofs.Filters.{complement_not}
use Rattle.sm_store.proofs.Narrowing.{from_kept}
use Rattle.sm_store.proofs.Exactness.{kept_true, least_attained, greatest_attained}
use Rattle.sm_store.proofs.Orders.{ordered_kept}
use Rattle.sm_store.proofs.Ends.{between}
use Rattle.sm_rows.specs.Halves.{Bounded, IsTooLittle}
use Rattle.sm_rows.specs.Inferences.{CutsOnly}
use Rattle.sm_rows.specs.Whole.{AreOrdered, IsWholeVar}
use Rattle.sm_rows.proofs.Greatest.{mono, anti}

lies_some : (kind : VarKind) (vs : List ℤ) (n d : ℤ) → LiesIn kind vs n d → 0 < length vs
lies_some Set [] n d h = absurd h
lies_some Int [] n d h = absurd h.0
lies_some Real [] n d h = absurd h
lies_some kind (v ∷ vs) n d h = omega arith

not_is : (b : Bool) → b ≡ false → not b ≡ true
not_is true e = absurd (cc)
not_is false e = refl

is_not : (b : Bool) → not b ≡ true → b ≡ false
is_not true e = absurd (cc)
is_not false e = refl

unit : (z : ℤ) → z *ℤ pos 1 ≡ z
unit z = omega (arith, ints)

-- a value of which a literal is false is one of those that its complement leaves
fails_kept : (l : Literal) (e : Extent) (x : ℤ) → LiesIn e.kind e.values x (pos 1) → passes l x ≡ false → LiesIn e.kind (kept e.kind (complement l) e.values) x (pos 1)
fails_kept l e x lies fails =
    let other : passes (complement l) x ≡ true = complement_not l x ∙ not_is (passes l x) fails in
    kept_true e.kind (complement l) x (pos 1) e.values (omega (arith, ints)) (rw (unit (complement l).bound) other) lies

-- where the complement leaves nothing, the literal cuts nothing
pub cuts_nothing : (P : ℤ → Type 0) (store : List Extent) (l : Literal) → (0 < length (narrowed (complement l) (extent_at store l.var)).values → ⊥) → CutsOnly P store l
cuts_nothing P store l none x lies fails =
    let e = extent_at store l.var in
    absurd (none (lies_some e.kind (kept e.kind (complement l) e.values) x (pos 1) (fails_kept l e x lies fails)))

-- ---- the ends of what a literal leaves pass

first_passes : (l : Literal) (vs : List ℤ) (i : ℕ) → i < length (filter (passes l) vs) → passes l (get_or (filter (passes l) vs) i (pos 0)) ≡ true
first_passes l vs i lt = filter_passes (passes l) vs i (pos 0) lt

-- the ends of a range that has some
pub record HasRange (x y : ℤ) : Type 0 where
  pub order : x ≤ℤ y
  pub first : get_or (range x y) 0 (pos 0) ≡ x
  pub last : get_or (range x y) (length (range x y) - 1) (pos 0) ≡ y

range_of : (x y : ℤ) → 0 < length (range x y) → HasRange x y
range_of x y some = by_test (int_le x y) refl some
  where
    by_test : (b : Bool) → int_le x y ≡ b → 0 < length (cond b (x ∷ y ∷ []) []) → HasRange x y
    by_test true e some = record { order = grind (arith, ints); first = rw e refl; last = rw e refl }
    by_test false e some = absurd (omega (arith, some))

-- both ends of what a test leaves of a range pass it
pub record EndsPass (t : Test) (b : ℤ) (vs : List ℤ) : Type 0 where
  pub first : passes_test t b (get_or vs 0 (pos 0)) ≡ true
  pub last : passes_test t b (get_or vs (length vs - 1) (pos 0)) ≡ true

ends_at : (t : Test) (b x y : ℤ) → 0 < length (range x y) → (x ≤ℤ y → (passes_test t b x ≡ true) × (passes_test t b y ≡ true)) → EndsPass t b (range x y)
ends_at t b x y some pass =
    let h = range_of x y some in
    record { first = rw h.first (pass h.order).0; last = rw h.last (pass h.order).1 }

cut_passes : (t : Test) (b lo hi : ℤ) → 0 < length (cut_range t b lo hi) → EndsPass t b (cut_range t b lo hi)
cut_passes AtMost b lo hi some = ends_at AtMost b lo (int_min hi b) some (λ le. (grind (arith, ints, clamps), grind (arith, ints, clamps)))
cut_passes AtLeast b lo hi some = ends_at AtLeast b (int_max lo b) hi some (λ le. (grind (arith, ints, clamps), grind (arith, ints, clamps)))
cut_passes Equal b lo hi some = ends_at Equal b (int_max lo b) (int_min hi b) some (λ le. (grind (arith, ints, clamps), grind (arith, ints, clamps)))
cut_passes Unequal b lo hi some = by_tests (int_eq b lo) (int_eq b hi) refl refl some
  where
    by_tests : (p q : Bool) → int_eq b lo ≡ p → int_eq b hi ≡ q → 0 < length (cond p (range (lo +ℤ pos 1) hi) (cond q (range lo (hi -ℤ pos 1)) (range lo hi))) → EndsPass Unequal b (cond p (range (lo +ℤ pos 1) hi) (cond q (range lo (hi -ℤ pos 1)) (range lo hi)))
    by_tests true q e f some = ends_at Unequal b (lo +ℤ pos 1) hi some (λ le. (grind (arith, ints), grind (arith, ints)))
    by_tests false true e f some = ends_at Unequal b lo (hi -ℤ pos 1) some (λ le. (grind (arith, ints), grind (arith, ints)))
    by_tests false false e f some = ends_at Unequal b lo hi some (λ le. (grind (arith, ints), grind (arith, ints)))

kept_range_passes : (l : Literal) (vs : List ℤ) → 0 < length (kept_range l vs) → EndsPass l.test l.bound (kept_range l vs)
kept_range_passes l [] some = absurd (omega (arith, some))
kept_range_passes l (v ∷ []) some = absurd (omega (arith, some))
kept_range_passes l (lo ∷ hi ∷ vs) some = cut_passes l.test l.bound lo hi some

kept_passes : (kind : VarKind) (l : Literal) (vs : List ℤ) → kind ≢ Real → 0 < length (kept kind l vs) → EndsPass l.test l.bound (kept kind l vs)
kept_passes Set l vs discrete some = record { first = first_passes l vs 0 some; last = first_passes l vs (length (filter (passes l) vs) - 1) (omega (arith, some)) }
kept_passes Int l vs discrete some = kept_range_passes l vs some
kept_passes Real l vs discrete some = absurd (discrete refl)

-- ---- the ends tell

module _ (store : List Extent) (h : Bounded) (t : ℕ × ℤ) (l : Literal) (ordered : AreOrdered store) (whole : IsWholeVar store l) (some : 0 < length (narrowed (complement l) (extent_at store l.var)).values) where
  abbrev pub left : Extent
  left = narrowed (complement l) (extent_at store l.var)

  left_ordered : IsOrdered left.kind left.values
  left_ordered = ordered_kept (extent_at store l.var).kind (complement l) (extent_at store l.var).values (ordered l.var whole.known)

  least_cut : CutsOnly (IsTooLittle store h t) store l → IsTooLittle store h t (least_of left)
  least_cut cuts =
      let e = extent_at store l.var in
      cuts (least_of left) (from_kept e.kind (complement l) (least_of left) (pos 1) e.values (omega (arith, ints)) (least_attained left left_ordered some))
      (is_not (passes l (least_of left)) (sym (complement_not l (least_of left)) ∙ (kept_passes e.kind (complement l) e.values whole.discrete some).first))

  greatest_cut : CutsOnly (IsTooLittle store h t) store l → IsTooLittle store h t (greatest_of left)
  greatest_cut cuts =
      let e = extent_at store l.var in
      cuts (greatest_of left) (from_kept e.kind (complement l) (greatest_of left) (pos 1) e.values (omega (arith, ints)) (greatest_attained left left_ordered some))
      (is_not (passes l (greatest_of left)) (sym (complement_not l (greatest_of left)) ∙ (kept_passes e.kind (complement l) e.values whole.discrete some).last))

  -- with a coefficient of 0 or more the greatest value that is cut reaches highest, and else the least
  pub cuts_up : pos 0 ≤ℤ t.1 → IsTooLittle store h t (greatest_of left) ↔ CutsOnly (IsTooLittle store h t) store l
  cuts_up up = (
    (λ little x lies fails.
        let e = extent_at store l.var in
        let ends = between e.kind left.values x (pos 1) (omega (arith, ints)) left_ordered (fails_kept l e x lies fails) in
        let high : x ≤ℤ greatest_of left = omega (arith, ints, ends.most) in
        let more = mono t.1 x (greatest_of left) up high in
        omega (arith, ints, little, more)),
    greatest_cut,
  )

  pub cuts_down : t.1 <ℤ pos 0 → IsTooLittle store h t (least_of left) ↔ CutsOnly (IsTooLittle store h t) store l
  cuts_down down = (
    (λ little x lies fails.
        let e = extent_at store l.var in
        let ends = between e.kind left.values x (pos 1) (omega (arith, ints)) left_ordered (fails_kept l e x lies fails) in
        let low : least_of left ≤ℤ x = omega (arith, ints, ends.least) in
        let more = anti t.1 (least_of left) x down low in
        omega (arith, ints, little, more)),
    least_cut,
  )

-- the end that reaches highest tells, where the complement leaves some
pub cuts_by_end : (store : List Extent) (h : Bounded) (t : ℕ × ℤ) (l k : Literal) → k ≡ complement l → AreOrdered store → IsWholeVar store l → (lo hi : ℤ) → 0 < length (narrowed k (extent_at store k.var)).values → lo ≡ least_of (narrowed k (extent_at store k.var)) → hi ≡ greatest_of (narrowed k (extent_at store k.var)) → (r : Bool) → (pos 0 ≤ℤ t.1 → IsTrue r ↔ IsTooLittle store h t hi) → (t.1 <ℤ pos 0 → IsTrue r ↔ IsTooLittle store h t lo) → IsTrue r ↔ CutsOnly (IsTooLittle store h t) store l
cuts_by_end store h t l k is ordered whole lo hi some low high r up down = elim (sign t.1) [
  | inl above ↦
      let some' : 0 < length (narrowed (complement l) (extent_at store l.var)).values = rw is at some in
      let value : hi ≡ greatest_of (narrowed (complement l) (extent_at store l.var)) = rw is at high in
      let told : IsTrue r ↔ IsTooLittle store h t (greatest_of (narrowed (complement l) (extent_at store l.var))) = rw value at (up above) in
      let both = cuts_up store h t l ordered whole some' above in
      (λ answer. both.0 (told.0 answer), λ cuts. told.1 (both.1 cuts))
  | inr below ↦
      let some' : 0 < length (narrowed (complement l) (extent_at store l.var)).values = rw is at some in
      let value : lo ≡ least_of (narrowed (complement l) (extent_at store l.var)) = rw is at low in
      let told : IsTrue r ↔ IsTooLittle store h t (least_of (narrowed (complement l) (extent_at store l.var))) = rw value at (down below) in
      let both = cuts_down store h t l ordered whole some' below in
      (λ answer. both.0 (told.0 answer), λ cuts. told.1 (both.1 cuts))
]
  where
    sign : (z : ℤ) → (pos 0 ≤ℤ z) ⊎ (z <ℤ pos 0)
    sign z = grind (arith, ints)

-- and where the complement leaves nothing, the literal cuts nothing
pub cuts_none : (P : ℤ → Type 0) (store : List Extent) (l k : Literal) → k ≡ complement l → (0 < length (narrowed k (extent_at store k.var)).values → ⊥) → IsTrue true ↔ CutsOnly P store l
cuts_none P store l k is none = (λ told. cuts_nothing P store l (rw is at none), λ cuts. refl)
