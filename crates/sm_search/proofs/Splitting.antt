-- A literal between the ends of an extent with several values narrows it, and so does its complement.
use Rattle.std.proofs.Common.{◌≡◌, ◌≢◌, ℕ, zero, suc, ◌-◌, ◌<◌, ◌≤◌, ◌^◌, Bool, true, false, cond, List, [], ◌∷◌, length, get_or, refl, arith}
use Rattle.std.specs.Prelude.{ℤ, pos, ◌+ℤ◌, ◌-ℤ◌, ◌<ℤ◌, ◌≤ℤ◌, int_le, filter, unsigned_abs}
use Rattle.std.specs.Int.{int_max, int_min}
use Rattle.std.proofs.lemmas.Int.{ints, clamps}
use Rattle.sm_kinds.specs.declared.literal.Literal.{Literal}
use Rattle.sm_kinds.specs.declared.literal.Test.TheVariants.{AtMost, AtLeast}
use Rattle.sm_kinds.specs.declared.var.VarKind.{VarKind}
use Rattle.sm_kinds.specs.declared.var.VarKind.TheVariants.{Set, Int, Real}
use Rattle.sm_kinds.specs.Literals.{passes}
use Rattle.sm_flat.specs.Models.{FlatModel}
use Rattle.sm_store.specs.Stores.{Extent, extent_at, range, kept_range, kept, AreEnds, IsOrdered, range_size, size_in, least_of, greatest_of, IsStoreOf}
use Rattle.sm_store.proofs.Filters.{fewer_other}
use Rattle.sm_search.specs.Leaves.{IsUnfixed}
use Rattle.sm_search.specs.Picks.{Splits}

-- ---- the ends of several values

size_some : (kind : VarKind) (vs : List ℤ) → 1 < size_in kind vs → 0 < length vs
size_some Set vs several = omega (arith, several)
size_some Int [] several = absurd (omega (arith, several))
size_some Int (v ∷ vs) several = omega arith
size_some Real vs several = absurd (omega (arith, several))

pub unfixed_some : (store : List Extent) (i : ℕ) → IsUnfixed store i → 0 < length (extent_at store i).values
unfixed_some store i unfixed = size_some (extent_at store i).kind (extent_at store i).values unfixed.several

range_apart : (vs : List ℤ) → AreEnds vs → 1 < range_size vs → (get_or vs 0 (pos 0)) <ℤ (get_or vs (length vs - 1) (pos 0))
range_apart [] ends several = absurd (omega (arith, several))
range_apart (v ∷ []) ends several = absurd ends
range_apart (lo ∷ hi ∷ []) ends several = grind (arith, ints)
range_apart (lo ∷ hi ∷ v ∷ vs) ends several = absurd ends

apart_in : (kind : VarKind) (vs : List ℤ) → IsOrdered kind vs → 1 < size_in kind vs → (get_or vs 0 (pos 0)) <ℤ (get_or vs (length vs - 1) (pos 0))
apart_in Set vs ordered several = ordered.order 0 (length vs - 1) (pos 0) (omega (arith, several)) (omega (arith, several))
apart_in Int vs ordered several = range_apart vs ordered.order several
apart_in Real vs ordered several = absurd (omega (arith, several))

-- they differ
pub ends_apart : (store : List Extent) (i : ℕ) → IsUnfixed store i → IsOrdered (extent_at store i).kind (extent_at store i).values → (least_of (extent_at store i)) <ℤ (greatest_of (extent_at store i))
ends_apart store i unfixed ordered = apart_in (extent_at store i).kind (extent_at store i).values ordered unfixed.several

-- a store of a model is in order
pub ordered_at : (m : FlatModel) (store : List Extent) (i : ℕ) → IsStoreOf m store → IsUnfixed store i → IsOrdered (extent_at store i).kind (extent_at store i).values
ordered_at m store i of unfixed = (of.parts i unfixed.known).ordered

-- ---- what a literal keeps of a list

filter_le : (p : ℤ → Bool) (vs : List ℤ) → length (filter p vs) ≤ length vs
filter_le p [] = omega arith
filter_le p (v ∷ vs) = by_test (p v) (filter_le p vs)
  where
    by_test : (b : Bool) → length (filter p vs) ≤ length vs → length (cond b (v ∷ filter p vs) (filter p vs)) ≤ length (v ∷ vs)
    by_test true rest = omega arith
    by_test false rest = omega arith

-- a value that passes is left
filter_some : (p : ℤ → Bool) (vs : List ℤ) (i : ℕ) → i < length vs → p (get_or vs i (pos 0)) ≡ true → 0 < length (filter p vs)
filter_some p [] i lt e = absurd (omega arith)
filter_some p (v ∷ vs) zero lt e = rw e (omega arith)
filter_some p (v ∷ vs) (suc i) lt e = by_test (p v) (filter_some p vs i (omega arith) e)
  where
    by_test : (b : Bool) → 0 < length (filter p vs) → 0 < length (cond b (v ∷ filter p vs) (filter p vs))
    by_test true rest = omega arith
    by_test false rest = rest

-- one that doesn't is removed
filter_fewer : (p : ℤ → Bool) (vs : List ℤ) (i : ℕ) → i < length vs → p (get_or vs i (pos 0)) ≡ false → length (filter p vs) < length vs
filter_fewer p [] i lt e = absurd (omega arith)
filter_fewer p (v ∷ vs) zero lt e = let le = filter_le p vs in rw e (omega arith)
filter_fewer p (v ∷ vs) (suc i) lt e = by_test (p v) (filter_fewer p vs i (omega arith) e)
  where
    by_test : (b : Bool) → length (filter p vs) < length vs → length (cond b (v ∷ filter p vs) (filter p vs)) < length (v ∷ vs)
    by_test true rest = omega arith
    by_test false rest = omega arith

-- some numbers are kept, and others than before
abbrev IsPart : List ℤ → List ℤ → Type 0
IsPart kept_values vs = (0 < length kept_values) × (kept_values ≢ vs)

list_part : (l : Literal) (vs : List ℤ) (i j : ℕ) → i < length vs → j < length vs → passes l (get_or vs i (pos 0)) ≡ true → passes l (get_or vs j (pos 0)) ≡ false → IsPart (filter (passes l) vs) vs
list_part l vs i j lt lt' one none = (filter_some (passes l) vs i lt one, fewer_other l vs (filter_fewer (passes l) vs j lt' none))

-- ---- what a literal keeps of a range

range_part : (lo hi x y : ℤ) → x ≤ℤ y → (x ≡ lo → y ≡ hi → ⊥) → IsPart (range x y) (lo ∷ hi ∷ [])
range_part lo hi x y le other =
    let e : int_le x y ≡ true = grind (arith, ints) in
    rw e (omega arith, λ same. other (cc) (cc))

low_range : (l : Literal) (vs : List ℤ) → AreEnds vs → 0 < length vs → l.test ≡ AtMost → (get_or vs 0 (pos 0)) ≤ℤ l.bound → l.bound <ℤ (get_or vs (length vs - 1) (pos 0)) → IsPart (kept_range l vs) vs
low_range l [] ends some is least most = absurd (omega (arith, some))
low_range l (v ∷ []) ends some is least most = absurd ends
low_range l (lo ∷ hi ∷ []) ends some is least most =
    let e : int_min hi l.bound ≡ l.bound = omega (arith, ints, clamps) in
    rw (is, e) (range_part lo hi lo l.bound least (λ _ same. absurd (omega (arith, ints, same, most))))
low_range l (lo ∷ hi ∷ v ∷ vs) ends some is least most = absurd ends

high_range : (l : Literal) (vs : List ℤ) → AreEnds vs → 0 < length vs → l.test ≡ AtLeast → (get_or vs 0 (pos 0)) <ℤ l.bound → l.bound ≤ℤ (get_or vs (length vs - 1) (pos 0)) → IsPart (kept_range l vs) vs
high_range l [] ends some is least most = absurd (omega (arith, some))
high_range l (v ∷ []) ends some is least most = absurd ends
high_range l (lo ∷ hi ∷ []) ends some is least most =
    let e : int_max lo l.bound ≡ l.bound = omega (arith, ints, clamps) in
    rw (is, e) (range_part lo hi l.bound hi most (λ same _. absurd (omega (arith, ints, same, least))))
high_range l (lo ∷ hi ∷ v ∷ vs) ends some is least most = absurd ends

-- ---- either kind of extent

-- the numbers up to a bound from the least on, and below the greatest
low_part : (kind : VarKind) (l : Literal) (vs : List ℤ) → IsOrdered kind vs → 1 < size_in kind vs → l.test ≡ AtMost → (get_or vs 0 (pos 0)) ≤ℤ l.bound → l.bound <ℤ (get_or vs (length vs - 1) (pos 0)) → IsPart (kept kind l vs) vs
low_part Set l vs ordered several is least most =
    let first : passes l (get_or vs 0 (pos 0)) ≡ true = rw is (grind (arith, ints)) in
    let last : passes l (get_or vs (length vs - 1) (pos 0)) ≡ false = rw is (grind (arith, ints)) in
    list_part l vs 0 (length vs - 1) (omega (arith, several)) (omega (arith, several)) first last
low_part Int l vs ordered several is least most = low_range l vs ordered.order (size_some Int vs several) is least most
low_part Real l vs ordered several is least most = absurd (omega (arith, several))

-- the numbers from a bound on above the least, and up to the greatest
high_part : (kind : VarKind) (l : Literal) (vs : List ℤ) → IsOrdered kind vs → 1 < size_in kind vs → l.test ≡ AtLeast → (get_or vs 0 (pos 0)) <ℤ l.bound → l.bound ≤ℤ (get_or vs (length vs - 1) (pos 0)) → IsPart (kept kind l vs) vs
high_part Set l vs ordered several is least most =
    let last : passes l (get_or vs (length vs - 1) (pos 0)) ≡ true = rw is (grind (arith, ints)) in
    let first : passes l (get_or vs 0 (pos 0)) ≡ false = rw is (grind (arith, ints)) in
    list_part l vs (length vs - 1) 0 (omega (arith, several)) (omega (arith, several)) last first
high_part Int l vs ordered several is least most = high_range l vs ordered.order (size_some Int vs several) is least most
high_part Real l vs ordered several is least most = absurd (omega (arith, several))

-- ---- the ways to split

-- by a bound from the least value on, and below the greatest
pub low_splits : (store : List Extent) (i : ℕ) (z : ℤ) → IsUnfixed store i → IsOrdered (extent_at store i).kind (extent_at store i).values → (least_of (extent_at store i)) ≤ℤ z → z <ℤ (greatest_of (extent_at store i)) → unsigned_abs z ≤ 2 ^ 31 → Splits store (record { var = i; test = AtMost; bound = z })
low_splits store i z unfixed ordered least most small =
    let e = extent_at store i in
    let one = low_part e.kind (record { var = i; test = AtMost; bound = z }) e.values ordered unfixed.several refl least most in
    let two = high_part e.kind (record { var = i; test = AtLeast; bound = z +ℤ pos 1 }) e.values ordered unfixed.several refl (omega (arith, ints, least)) (omega (arith, ints, most)) in
    record {
      first = record { known = unfixed.known; bounded = omega (arith, small); leaves = one.0; changes = one.1 };
      second = record { known = unfixed.known; bounded = omega (arith, ints, small); leaves = two.0; changes = two.1 };
    }

-- by a bound above the least value, and up to the greatest
pub high_splits : (store : List Extent) (i : ℕ) (z : ℤ) → IsUnfixed store i → IsOrdered (extent_at store i).kind (extent_at store i).values → (least_of (extent_at store i)) <ℤ z → z ≤ℤ (greatest_of (extent_at store i)) → unsigned_abs z ≤ 2 ^ 31 → Splits store (record { var = i; test = AtLeast; bound = z })
high_splits store i z unfixed ordered least most small =
    let e = extent_at store i in
    let one = high_part e.kind (record { var = i; test = AtLeast; bound = z }) e.values ordered unfixed.several refl least most in
    let two = low_part e.kind (record { var = i; test = AtMost; bound = z -ℤ pos 1 }) e.values ordered unfixed.several refl (omega (arith, ints, least)) (omega (arith, ints, most)) in
    record {
      first = record { known = unfixed.known; bounded = omega (arith, small); leaves = one.0; changes = one.1 };
      second = record { known = unfixed.known; bounded = omega (arith, ints, small); leaves = two.0; changes = two.1 };
    }
