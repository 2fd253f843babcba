-- What an assignment of a store gives a column lies in the column's box.
use Rattle.std.proofs.Common.{◌≡◌, refl, sym, arith, ℕ, zero, suc, ◌-◌, ◌<◌, Bool, true, false, cond, Some, None, List, [], ◌∷◌, length, get_or, inl, inr}
use Rattle.std.specs.Prelude.{ℤ, pos, negsuc, ◌+ℤ◌, ◌*ℤ◌, ◌<ℤ◌, ◌≤ℤ◌, AllPairs, ◌↔◌, IsTrue}
use Rattle.std.specs.Ordering.{int_eq}
use Rattle.std.proofs.lemmas.Int.{ints}
use Rattle.std.proofs.lemmas.Bool.{cases_eq}
use Rattle.std.proofs.Math.IntN.{*ℤ-zero}
use Rattle.sm_kinds.specs.declared.var.VarKind.{VarKind}
use Rattle.sm_kinds.specs.declared.var.VarKind.TheVariants.{Set, Int, Real}
use Rattle.sm_kinds.specs.Vars.{IsOneOf, IsBetween as LiesBetween, LiesIn}
use Rattle.sm_kinds.specs.Points.{Point}
use Rattle.sm_kinds.proofs.Multiples.{times_le, times_cancel}
use Rattle.sm_flat.specs.Models.{FlatModel}
use Rattle.sm_step.specs.declared.row.Col.{Col}
use Rattle.sm_step.specs.declared.row.Col.TheVariants.{Var, Is}
use Rattle.sm_store.specs.Stores.{Extent, extent_at, In, IsStoreOf, IsOrdered, AreEnds, fixed_value, one_value, one_end}
use Rattle.sm_rows.specs.Rows.{column_at}
use Rattle.sm_rows.specs.Boxes.{is_one_of, is_inside, is_value, is_only, indicator_box, box_of, variable_of}
use Rattle.sm_rows.proofs.Sums.{zero_left}

-- ---- products keep an order

mul-step : (a : ℤ) (n : ℕ) → a *ℤ pos (suc n) ≡ a *ℤ pos n +ℤ a
mul-step a n = omega (arith, ints)

mul-le_pos : (a b : ℤ) (n : ℕ) → a ≤ℤ b → (a *ℤ pos n) ≤ℤ (b *ℤ pos n)
mul-le_pos a b zero h = rw (*ℤ-zero a, *ℤ-zero b) (omega (arith, ints))
mul-le_pos a b (suc n) h = rw (mul-step a n, mul-step b n) (omega (arith, ints, mul-le_pos a b n h))

pub mul-le : (a b d : ℤ) → pos 0 ≤ℤ d → a ≤ℤ b → (a *ℤ d) ≤ℤ (b *ℤ d)
mul-le a b (pos n) p h = mul-le_pos a b n h
mul-le a b (negsuc n) p h = absurd (omega (arith, ints))

-- ---- a value between the ends of its domain

-- the fraction is the number at this place
pub record IsAt (n d : ℤ) (vs : List ℤ) : Type 0 where
  pub place : ℕ
  pub within : place < length vs
  pub is : n ≡ get_or vs place (pos 0) *ℤ d

pub one_of_at : (n d : ℤ) (vs : List ℤ) → IsOneOf n d vs → IsAt n d vs
one_of_at n d [] h = elim h [ ]
one_of_at n d (v ∷ vs) (inl here) = record { place = 0; within = omega arith; is = here }
one_of_at n d (v ∷ vs) (inr there) =
    let at = one_of_at n d vs there in
    record { place = suc at.place; within = omega (arith, at.within); is = at.is }

pub low_le : (vs : List ℤ) → AllPairs (λ (v w : ℤ). v <ℤ w) vs → (j : ℕ) → j < length vs → (get_or vs 0 (pos 0)) ≤ℤ (get_or vs j (pos 0))
low_le vs rising j lt = elim (cases_eq 0 j) [
  | inl e ↦ rw (← e) (omega (arith, ints))
  | inr ne ↦ omega (arith, ints, rising 0 j (pos 0) (omega arith) lt)
]

pub le_high : (vs : List ℤ) → AllPairs (λ (v w : ℤ). v <ℤ w) vs → (j : ℕ) → j < length vs → (get_or vs j (pos 0)) ≤ℤ (get_or vs (length vs - 1) (pos 0))
le_high vs rising j lt = elim (cases_eq j (length vs - 1)) [
  | inl e ↦ rw e (omega (arith, ints))
  | inr ne ↦ omega (arith, ints, rising j (length vs - 1) (pos 0) (omega arith) (omega arith))
]

pub record IsBetween (low n high d : ℤ) : Type 0 where
  pub least : (low *ℤ d) ≤ℤ n
  pub most : n ≤ℤ (high *ℤ d)

between_ends : (vs : List ℤ) (n d : ℤ) → AreEnds vs → LiesBetween n d vs → IsBetween (get_or vs 0 (pos 0)) n (get_or vs (length vs - 1) (pos 0)) d
between_ends [] n d ends h = absurd h
between_ends (v ∷ []) n d ends h = absurd h
between_ends (low ∷ high ∷ []) n d ends h = record { least = h.0; most = h.1 }
between_ends (low ∷ high ∷ v ∷ vs) n d ends h = absurd ends

pub between : (kind : VarKind) (vs : List ℤ) (n d : ℤ) → pos 0 <ℤ d → IsOrdered kind vs → LiesIn kind vs n d → IsBetween (get_or vs 0 (pos 0)) n (get_or vs (length vs - 1) (pos 0)) d
between Set vs n d p ordered h =
    let at = one_of_at n d vs h in
    let low = mul-le _ _ d (omega (arith, ints)) (low_le vs ordered.order at.place at.within) in
    let high = mul-le _ _ d (omega (arith, ints)) (le_high vs ordered.order at.place at.within) in
    record { least = omega (arith, ints, low, at.is); most = omega (arith, ints, high, at.is) }
between Int vs n d p ordered h = between_ends vs n d ordered.order h.0
between Real vs n d p ordered h = between_ends vs n d ordered.order h

-- ---- indicators

one_of_values : (v d : ℤ) (vs : List ℤ) → pos 0 <ℤ d → IsOneOf (v *ℤ d) d vs → is_one_of v vs ≡ true
one_of_values v d [] p h = absurd h
one_of_values v d (w ∷ ws) p (inl here) =
    let same : v ≡ w = times_cancel v w d (omega (arith, ints)) here in
    let test : int_eq v w ≡ true = grind (arith, ints) in rw test refl
one_of_values v d (w ∷ ws) p (inr there) = cases (int_eq v w) (one_of_values v d ws p there)
  where
    cases : (b : Bool) → is_one_of v ws ≡ true → cond b true (is_one_of v ws) ≡ true
    cases true h = refl
    cases false h = h

inside_of_between : (v d : ℤ) (vs : List ℤ) → pos 0 <ℤ d → LiesBetween (v *ℤ d) d vs → is_inside v vs ≡ true
inside_of_between v d [] p h = absurd h
inside_of_between v d (w ∷ []) p h = absurd h
inside_of_between v d (low ∷ high ∷ vs) p h =
    let first = times_le low v d (omega (arith, ints)) in
    let second = times_le v high d (omega (arith, ints)) in
    let one = h.0 in let two = h.1 in
    grind (arith, ints, first, second, one, two)

pub value_of_lies : (kind : VarKind) (vs : List ℤ) (v d : ℤ) → pos 0 <ℤ d → LiesIn kind vs (v *ℤ d) d → is_value kind vs v ≡ true
value_of_lies Set vs v d p h = one_of_values v d vs p h
value_of_lies Int vs v d p h = inside_of_between v d vs p h.0
value_of_lies Real vs v d p h = inside_of_between v d vs p h

one_of_test : (v : ℤ) (vs : List ℤ) → is_one_of v vs ≡ true → IsOneOf v (pos 1) vs
one_of_test v [] h = absurd (cc)
one_of_test v (w ∷ ws) h = cases (one_of_test v ws) (int_eq v w) refl h
  where
    cases : (is_one_of v ws ≡ true → IsOneOf v (pos 1) ws) → (b : Bool) → int_eq v w ≡ b → cond b true (is_one_of v ws) ≡ true → IsOneOf v (pos 1) (w ∷ ws)
    cases rest true e h = let same : v ≡ w = grind (arith, ints) in inl (omega (arith, ints, same))
    cases rest false e h = inr (rest h)

between_test : (v : ℤ) (vs : List ℤ) → is_inside v vs ≡ true → LiesBetween v (pos 1) vs
between_test v [] h = absurd (cc)
between_test v (w ∷ []) h = absurd (cc)
between_test v (low ∷ high ∷ vs) h =
    let one : low ≤ℤ v = grind (arith, ints) in
    let two : v ≤ℤ high = grind (arith, ints) in
    (omega (arith, ints, one), omega (arith, ints, two))

lies_of_value : (kind : VarKind) (vs : List ℤ) (v : ℤ) → is_value kind vs v ≡ true → LiesIn kind vs v (pos 1)
lies_of_value Set vs v h = one_of_test v vs h
lies_of_value Int vs v h = (between_test v vs h, (v, omega (arith, ints)))
lies_of_value Real vs v h = between_test v vs h

-- the test of a value, by what a store says of it
is_value_true : (kind : VarKind) (vs : List ℤ) (v : ℤ) → LiesIn kind vs v (pos 1) → is_value kind vs v ≡ true
is_value_true kind vs v h =
    let same : v ≡ v *ℤ pos 1 = omega (arith, ints) in
    let there : LiesIn kind vs (v *ℤ pos 1) (pos 1) = rw (← same) h in
    value_of_lies kind vs v (pos 1) (omega (arith, ints)) there

pub is_value_of : (kind : VarKind) (vs : List ℤ) (v : ℤ) (b : Bool) → IsTrue b ↔ LiesIn kind vs v (pos 1) → b ≡ is_value kind vs v
is_value_of kind vs v b h = cases b (is_value kind vs v) refl refl
  where
    cases : (x y : Bool) → b ≡ x → is_value kind vs v ≡ y → b ≡ is_value kind vs v
    cases true y e f = let lies : LiesIn kind vs v (pos 1) = h.0 e in rw e (sym (is_value_true kind vs v lies))
    cases false false e f = rw (e, f) refl
    cases false true e f = let t : IsTrue b = h.1 (lies_of_value kind vs v f) in absurd (cc)

fixed_set : (vs : List ℤ) (v n d : ℤ) → is_only (one_value vs) v ≡ true → IsOneOf n d vs → n ≡ v *ℤ d
fixed_set [] v n d only h = absurd h
fixed_set (w ∷ []) v n d only (inl here) = let same : w ≡ v = grind (arith, ints) in rw (← same) here
fixed_set (w ∷ []) v n d only (inr there) = absurd there
fixed_set (w ∷ x ∷ ws) v n d only h = absurd (cc)

fixed_range : (vs : List ℤ) (v n d : ℤ) → is_only (one_end vs) v ≡ true → LiesBetween n d vs → n ≡ v *ℤ d
fixed_range [] v n d only h = absurd h
fixed_range (w ∷ []) v n d only h = absurd h
fixed_range (low ∷ high ∷ vs) v n d only h = by_test (int_eq low high) refl only
  where
    by_test : (b : Bool) → int_eq low high ≡ b → is_only (cond b (Some low) None) v ≡ true → n ≡ v *ℤ d
    by_test true e only =
        let same : low ≡ high = grind (arith, ints) in
        let known : low ≡ v = grind (arith, ints) in
        let below : n ≤ℤ (low *ℤ d) = rw same h.1 in
        rw (← known) (omega (arith, ints, h.0, below))
    by_test false e only = absurd (cc)

fixed_is : (kind : VarKind) (vs : List ℤ) (v n d : ℤ) → is_only (fixed_value kind vs) v ≡ true → LiesIn kind vs n d → n ≡ v *ℤ d
fixed_is Set vs v n d only h = fixed_set vs v n d only h
fixed_is Int vs v n d only h = fixed_range vs v n d only h.0
fixed_is Real vs v n d only h = absurd (cc)

-- ---- the box of an indicator, by what a store says of its number

pub no_value_box : (e : Extent) (v : ℤ) → is_value e.kind e.values v ≡ false → indicator_box e v ≡ (pos 0, pos 0)
no_value_box e v none = rw none refl

pub free_box : (e : Extent) (v : ℤ) → is_value e.kind e.values v ≡ true → is_only (fixed_value e.kind e.values) v ≡ false → indicator_box e v ≡ (pos 0, pos 1)
free_box e v some more = rw (some, more) refl

pub only_box : (e : Extent) (v : ℤ) → is_value e.kind e.values v ≡ true → is_only (fixed_value e.kind e.values) v ≡ true → indicator_box e v ≡ (pos 1, pos 1)
only_box e v some only = rw (some, only) refl

abbrev InBox : ℤ × ℤ → ℤ → ℤ → Type 0
InBox box n d = IsBetween box.0 n box.1 d

free : (d : ℤ) (b : Bool) → pos 0 <ℤ d → InBox (pos 0, pos 1) (cond b d (pos 0)) d
free d true p = record { least = rw (zero_left d) (omega (arith, ints)); most = omega (arith, ints) }
free d false p = record { least = rw (zero_left d) (omega (arith, ints)); most = omega (arith, ints) }

only : (d : ℤ) (b : Bool) → b ≡ true → InBox (pos 1, pos 1) (cond b d (pos 0)) d
only d true e = record { least = omega (arith, ints); most = omega (arith, ints) }
only d false e = absurd (cc)

absent : (d : ℤ) (b : Bool) → b ≡ false → InBox (pos 0, pos 0) (cond b d (pos 0)) d
absent d true e = absurd (cc)
absent d false e = record { least = rw (zero_left d) (omega (arith, ints)); most = rw (zero_left d) (omega (arith, ints)) }

equal_of : (x y : ℤ) → int_eq x y ≡ true → x ≡ y
equal_of x y h = grind (arith, ints)

equal_test : (x y : ℤ) → x ≡ y → int_eq x y ≡ true
equal_test x y h = grind (arith, ints)

not_value : (kind : VarKind) (vs : List ℤ) (v n d : ℤ) → pos 0 <ℤ d → LiesIn kind vs n d → is_value kind vs v ≡ false → int_eq n (v *ℤ d) ≡ false
not_value kind vs v n d p lies none = cases (int_eq n (v *ℤ d)) refl
  where
    cases : (b : Bool) → int_eq n (v *ℤ d) ≡ b → b ≡ false
    cases true e =
        let there : LiesIn kind vs (v *ℤ d) d = rw (equal_of n (v *ℤ d) e) at lies in
        let some : is_value kind vs v ≡ true = value_of_lies kind vs v d p there in absurd (cc)
    cases false e = refl

-- an indicator is between 0 and 1; 0 where its number is no value, and 1 where it is the only one
indicator_between : (a : Point) (i : ℕ) (v : ℤ) (e : Extent) → pos 0 <ℤ a.denominator → LiesIn e.kind e.values (a.numerator i) a.denominator → InBox (indicator_box e v) (column_at a (Is i v)) a.denominator
indicator_between a i v e p lies = by_value (is_value e.kind e.values v) (is_only (fixed_value e.kind e.values) v) refl refl
  where
    by_value : (b c : Bool) → is_value e.kind e.values v ≡ b → is_only (fixed_value e.kind e.values) v ≡ c → InBox (indicator_box e v) (column_at a (Is i v)) a.denominator
    by_value false c none f = rw (no_value_box e v none) (absent a.denominator (int_eq (a.numerator i) (v *ℤ a.denominator)) (not_value e.kind e.values v (a.numerator i) a.denominator p lies none))
    by_value true false some f = rw (free_box e v some f) (free a.denominator (int_eq (a.numerator i) (v *ℤ a.denominator)) p)
    by_value true true some f = rw (only_box e v some f) (only a.denominator (int_eq (a.numerator i) (v *ℤ a.denominator)) (equal_test (a.numerator i) (v *ℤ a.denominator) (fixed_is e.kind e.values v (a.numerator i) a.denominator f lies)))

pub column_between : (m : FlatModel) (a : Point) (store : List Extent) (c : Col) → IsStoreOf m store → variable_of c < length store → pos 0 <ℤ a.denominator → In a store → IsBetween (box_of store c).0 (column_at a c) (box_of store c).1 a.denominator
column_between m a store (Var i) of lt p h = let e = extent_at store i in between e.kind e.values (a.numerator i) a.denominator p (of.parts i lt).ordered (h i lt)
column_between m a store (Is i v) of lt p h = indicator_between a i v (extent_at store i) p (h i lt)
