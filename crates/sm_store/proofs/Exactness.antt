-- What narrowing keeps: every point where the literal is true, and, where the literal is of a list, is no inequality or has a
-- bound that isn't strictly between the ends, no other. The ends that an extent with values has are values of it.
use Rattle.std.proofs.Common.{◌≡◌, ℕ, zero, suc, ◌<◌, ◌-◌, ◌⊎◌, Bool, true, false, cond, not, List, [], ◌∷◌, length, get_or, set, refl, arith, ap, sym, ◌∙◌, inl, inr, get_or-set_same}
use Rattle.std.specs.Prelude.{ℤ, pos, ◌+ℤ◌, ◌-ℤ◌, ◌*ℤ◌, ◌<ℤ◌, ◌≤ℤ◌, filter, int_le}
use Rattle.std.specs.Int.{int_max, int_min}
use Rattle.std.specs.Ordering.{int_eq}
use Rattle.std.proofs.lemmas.Int.{ints, clamps}
use Rattle.std.proofs.lemmas.List.{length-set}
use Rattle.sm_kinds.specs.declared.literal.Literal.{Literal}
use Rattle.sm_kinds.specs.declared.literal.Test.{Test}
use Rattle.sm_kinds.specs.declared.literal.Test.TheVariants.{AtMost, AtLeast, Equal, Unequal}
use Rattle.sm_kinds.specs.declared.var.VarKind.{VarKind}
use Rattle.sm_kinds.specs.declared.var.VarKind.TheVariants.{Set, Int, Real}
use Rattle.sm_kinds.specs.Literals.{passes, passes_test, is_true}
use Rattle.sm_kinds.specs.Vars.{IsOneOf, IsBetween, LiesIn}
use Rattle.sm_kinds.specs.Points.{Point}
use Rattle.sm_kinds.proofs.Multiples.{times_le, times_eq}
use Rattle.sm_store.specs.Stores.{Extent, no_extent, extent_at, Lies, In, IsOrdered, AreEnds, range, cut_range, kept_range, kept, narrowed, narrow, least_of, greatest_of}
use Rattle.sm_store.proofs.Ranges.{in_kept_range, times_back}
use Rattle.sm_store.proofs.Narrowing.{In-set}

-- a test of a fraction that is whole is the test of the whole number
pub test_scaled : (t : Test) (b z d : ℤ) → pos 0 <ℤ d → passes_test t (b *ℤ d) (z *ℤ d) ≡ passes_test t b z
test_scaled AtMost b z d above = times_le z b d (omega (arith, ints))
test_scaled AtLeast b z d above = times_le b z d (omega (arith, ints))
test_scaled Equal b z d above = times_eq z b d (omega (arith, ints))
test_scaled Unequal b z d above = ap not (times_eq z b d (omega (arith, ints)))

whole_test : (t : Test) (b z n d : ℤ) → pos 0 <ℤ d → n ≡ z *ℤ d → passes_test t (b *ℤ d) n ≡ passes_test t b z
whole_test t b z n d above is = rw is (test_scaled t b z d above)

one_kept : (l : Literal) (n d : ℤ) (vs : List ℤ) → pos 0 <ℤ d → passes_test l.test (l.bound *ℤ d) n ≡ true → IsOneOf n d vs → IsOneOf n d (filter (passes l) vs)
one_kept l n d [] above t h = absurd h
one_kept l n d (v ∷ vs) above t (inl here) =
    let passed : passes l v ≡ true = sym (whole_test l.test l.bound v n d above here) ∙ t in
    rw passed (inl here)
one_kept l n d (v ∷ vs) above t (inr there) = cases (passes l v) (one_kept l n d vs above t there)
  where
    cases : (b : Bool) → IsOneOf n d (filter (passes l) vs) → IsOneOf n d (cond b (v ∷ filter (passes l) vs) (filter (passes l) vs))
    cases true h = inr h
    cases false h = h

-- a value of which the literal is true is kept, whatever the kind
pub kept_true : (kind : VarKind) (l : Literal) (n d : ℤ) (vs : List ℤ) → pos 0 <ℤ d → passes_test l.test (l.bound *ℤ d) n ≡ true → LiesIn kind vs n d → LiesIn kind (kept kind l vs) n d
kept_true Set l n d vs above t h = one_kept l n d vs above t h
kept_true Int l n d vs above t h = (in_kept_range l h.1.0 n d vs above h.1.1 (sym (whole_test l.test l.bound h.1.0 n d above h.1.1) ∙ t) h.0, h.1)
kept_true Real l n d vs above t h = h

-- an assignment of the store of which the literal is true is one of the narrowed store
pub In-true : (a : Point) (store : List Extent) (l : Literal) → pos 0 <ℤ a.denominator → l.var < length store → In a store → is_true a l ≡ true → In a (narrow store l)
In-true a store l above lt h t =
    let e = extent_at store l.var in
    In-set a store l.var (narrowed l e) h (kept_true e.kind l (a.numerator l.var) a.denominator e.values above t (h l.var lt))

only_one : (l : Literal) (n d : ℤ) (vs : List ℤ) → pos 0 <ℤ d → IsOneOf n d (filter (passes l) vs) → passes_test l.test (l.bound *ℤ d) n ≡ true
only_one l n d [] above h = absurd h
only_one l n d (v ∷ vs) above h = cases (passes l v) refl (only_one l n d vs above) h
  where
    cases : (b : Bool) → passes l v ≡ b → (IsOneOf n d (filter (passes l) vs) → passes_test l.test (l.bound *ℤ d) n ≡ true) → IsOneOf n d (cond b (v ∷ filter (passes l) vs) (filter (passes l) vs)) → passes_test l.test (l.bound *ℤ d) n ≡ true
    cases true e rest (inl here) = whole_test l.test l.bound v n d above here ∙ e
    cases true e rest (inr there) = rest there
    cases false e rest h = rest h

-- the ends of a range that some number is between
range_ends : (x y n d : ℤ) → IsBetween n d (range x y) → ((x *ℤ d) ≤ℤ n) × (n ≤ℤ (y *ℤ d))
range_ends x y n d h = cases (int_le x y) h
  where
    cases : (c : Bool) → IsBetween n d (cond c (x ∷ y ∷ []) []) → ((x *ℤ d) ≤ℤ n) × (n ≤ℤ (y *ℤ d))
    cases true between = between
    cases false none = absurd none

-- an inequality leaves of a range a number of which it is false, where its bound is strictly between the ends; no other test does
abbrev pub IsExactOn : Test → ℤ → List ℤ → Type 0
IsExactOn t bound [] = Unit {0}
IsExactOn t bound (v ∷ []) = Unit {0}
IsExactOn t bound (lo ∷ hi ∷ vs) = t ≡ Unequal → (bound ≤ℤ lo) ⊎ (hi ≤ℤ bound)

abbrev pub IsExact : VarKind → Literal → List ℤ → Type 0
IsExact Set l vs = Unit {0}
IsExact Int l vs = IsExactOn l.test l.bound vs
IsExact Real l vs = ⊥

from_low : (x z n d : ℤ) → pos 0 <ℤ d → n ≡ z *ℤ d → (x *ℤ d) ≤ℤ n → x ≤ℤ z
from_low x z n d above is h = times_back x z d above (rw is at h)

from_high : (y z n d : ℤ) → pos 0 <ℤ d → n ≡ z *ℤ d → n ≤ℤ (y *ℤ d) → z ≤ℤ y
from_high y z n d above is h = times_back z y d above (rw is at h)

only_apart : (b lo hi z n d : ℤ) → pos 0 <ℤ d → n ≡ z *ℤ d → (b ≤ℤ lo) ⊎ (hi ≤ℤ b) → IsBetween n d (cut_range Unequal b lo hi) → not (int_eq z b) ≡ true
only_apart b lo hi z n d above is side h = cases (int_eq b lo) (int_eq b hi) refl refl h
  where
    cases : (p q : Bool) → int_eq b lo ≡ p → int_eq b hi ≡ q → IsBetween n d (cond p (range (lo +ℤ pos 1) hi) (cond q (range lo (hi -ℤ pos 1)) (range lo hi))) → not (int_eq z b) ≡ true
    cases true q e f h = let le = from_low (lo +ℤ pos 1) z n d above is (range_ends (lo +ℤ pos 1) hi n d h).0 in grind (arith, ints)
    cases false true e f h = let le = from_high (hi -ℤ pos 1) z n d above is (range_ends lo (hi -ℤ pos 1) n d h).1 in grind (arith, ints)
    cases false false e f h =
        let low = from_low lo z n d above is (range_ends lo hi n d h).0 in
        let high = from_high hi z n d above is (range_ends lo hi n d h).1 in
        elim side [
          | inl left ↦ grind (arith, ints)
          | inr right ↦ grind (arith, ints)
        ]

only_cut : (t : Test) (b lo hi z n d : ℤ) → pos 0 <ℤ d → n ≡ z *ℤ d → (t ≡ Unequal → (b ≤ℤ lo) ⊎ (hi ≤ℤ b)) → IsBetween n d (cut_range t b lo hi) → passes_test t b z ≡ true
only_cut AtMost b lo hi z n d above is exact h =
    let le = from_high (int_min hi b) z n d above is (range_ends lo (int_min hi b) n d h).1 in
    let low : z ≤ℤ b = omega (arith, ints, clamps) in grind (arith, ints)
only_cut AtLeast b lo hi z n d above is exact h =
    let le = from_low (int_max lo b) z n d above is (range_ends (int_max lo b) hi n d h).0 in
    let high : b ≤ℤ z = omega (arith, ints, clamps) in grind (arith, ints)
only_cut Equal b lo hi z n d above is exact h =
    let ends = range_ends (int_max lo b) (int_min hi b) n d h in
    let first = from_low (int_max lo b) z n d above is ends.0 in
    let second = from_high (int_min hi b) z n d above is ends.1 in
    let high : b ≤ℤ z = omega (arith, ints, clamps) in
    let low : z ≤ℤ b = omega (arith, ints, clamps) in grind (arith, ints)
only_cut Unequal b lo hi z n d above is exact h = only_apart b lo hi z n d above is (exact refl) h

only_range : (l : Literal) (z n d : ℤ) (vs : List ℤ) → pos 0 <ℤ d → n ≡ z *ℤ d → IsExactOn l.test l.bound vs → IsBetween n d (kept_range l vs) → passes l z ≡ true
only_range l z n d [] above is exact h = absurd h
only_range l z n d (v ∷ []) above is exact h = absurd h
only_range l z n d (lo ∷ hi ∷ vs) above is exact h = only_cut l.test l.bound lo hi z n d above is exact h

-- where narrowing is exact, the literal is true of all that is kept
pub kept_only : (kind : VarKind) (l : Literal) (n d : ℤ) (vs : List ℤ) → pos 0 <ℤ d → IsExact kind l vs → LiesIn kind (kept kind l vs) n d → passes_test l.test (l.bound *ℤ d) n ≡ true
kept_only Set l n d vs above exact h = only_one l n d vs above h
kept_only Int l n d vs above exact h = whole_test l.test l.bound h.1.0 n d above h.1.1 ∙ only_range l h.1.0 n d vs above h.1.1 exact h.0
kept_only Real l n d vs above exact h = absurd exact

-- so the literal is true of every assignment of the narrowed store
pub In-only : (a : Point) (store : List Extent) (l : Literal) → pos 0 <ℤ a.denominator → l.var < length store → IsExact (extent_at store l.var).kind l (extent_at store l.var).values → In a (narrow store l) → is_true a l ≡ true
In-only a store l above lt exact h =
    let e = extent_at store l.var in
    let at : l.var < length (set store l.var (narrowed l e)) = omega (arith, lt, length-set store l.var (narrowed l e)) in
    let x : Lies a l.var (narrowed l e) = rw (get_or-set_same store l.var (narrowed l e) no_extent lt) at (h l.var at) in
    kept_only e.kind l (a.numerator l.var) a.denominator e.values above exact x

listed_at : (vs : List ℤ) (i : ℕ) → i < length vs → IsOneOf (get_or vs i (pos 0)) (pos 1) vs
listed_at [] i lt = absurd (omega arith)
listed_at (v ∷ vs) zero lt = inl (omega (arith, ints))
listed_at (v ∷ vs) (suc i) lt = inr (listed_at vs i (omega arith))

low_end : (vs : List ℤ) → AreEnds vs → 0 < length vs → IsBetween (get_or vs 0 (pos 0)) (pos 1) vs
low_end [] h some = absurd (omega (arith, some))
low_end (v ∷ []) h some = absurd h
low_end (lo ∷ hi ∷ []) h some = (omega (arith, ints), omega (arith, ints, h))
low_end (lo ∷ hi ∷ v ∷ vs) h some = absurd h

high_end : (vs : List ℤ) → AreEnds vs → 0 < length vs → IsBetween (get_or vs (length vs - 1) (pos 0)) (pos 1) vs
high_end [] h some = absurd (omega (arith, some))
high_end (v ∷ []) h some = absurd h
high_end (lo ∷ hi ∷ []) h some = (omega (arith, ints, h), omega (arith, ints))
high_end (lo ∷ hi ∷ v ∷ vs) h some = absurd h

-- the least and the greatest number of an extent with values are values of it
pub least_in : (kind : VarKind) (vs : List ℤ) → IsOrdered kind vs → 0 < length vs → LiesIn kind vs (get_or vs 0 (pos 0)) (pos 1)
least_in Set vs ordered some = listed_at vs 0 some
least_in Int vs ordered some = (low_end vs ordered.order some, (get_or vs 0 (pos 0), omega (arith, ints)))
least_in Real vs ordered some = low_end vs ordered.order some

pub greatest_in : (kind : VarKind) (vs : List ℤ) → IsOrdered kind vs → 0 < length vs → LiesIn kind vs (get_or vs (length vs - 1) (pos 0)) (pos 1)
greatest_in Set vs ordered some = listed_at vs (length vs - 1) (omega (arith, some))
greatest_in Int vs ordered some = (high_end vs ordered.order some, (get_or vs (length vs - 1) (pos 0), omega (arith, ints)))
greatest_in Real vs ordered some = high_end vs ordered.order some

pub least_attained : (e : Extent) → IsOrdered e.kind e.values → 0 < length e.values → LiesIn e.kind e.values (least_of e) (pos 1)
least_attained e ordered some = least_in e.kind e.values ordered some

pub greatest_attained : (e : Extent) → IsOrdered e.kind e.values → 0 < length e.values → LiesIn e.kind e.values (greatest_of e) (pos 1)
greatest_attained e ordered some = greatest_in e.kind e.values ordered some
