-- How many values an extent of each kind has: one that is fixed has one, and one that a literal changes has fewer.
use Rattle.std.proofs.Common.{◌≡◌, ◌≢◌, ◌+◌, ◌-◌, ◌<◌, ◌≤◌, Bool, true, false, cond, List, [], ◌∷◌, Some, None, length, get_or, refl, arith}
use Rattle.std.specs.Prelude.{ℤ, pos, ◌-ℤ◌, ◌≤ℤ◌, int_le, unsigned_abs, IsSome}
use Rattle.std.specs.Ordering.{int_eq}
use Rattle.std.proofs.lemmas.Int.{ints}
use Rattle.sm_kinds.specs.declared.literal.Literal.{Literal}
use Rattle.sm_kinds.specs.declared.var.VarKind.{VarKind}
use Rattle.sm_kinds.specs.declared.var.VarKind.TheVariants.{Set, Int, Real}
use Rattle.sm_store.specs.Stores.{IsOrdered, AreEnds, range, cut_range, kept_range, kept, one_value, one_end, fixed_value, range_size, size_in}
use Rattle.sm_store.proofs.Filters.{other_fewer}
use Rattle.sm_store.proofs.Ranges.{cut_is}

-- ---- an extent with one value

list_some : (vs : List ℤ) → IsSome (one_value vs) → 0 < length vs
list_some [] one = absurd (cc)
list_some (v ∷ vs) one = omega arith

range_some : (vs : List ℤ) → IsSome (one_end vs) → 0 < length vs
range_some [] one = absurd (cc)
range_some (v ∷ vs) one = omega arith

-- it has a number
pub fixed_some : (kind : VarKind) (vs : List ℤ) → IsSome (fixed_value kind vs) → 0 < length vs
fixed_some Set vs one = list_some vs one
fixed_some Int vs one = range_some vs one
fixed_some Real vs one = absurd (cc)

list_same : (vs : List ℤ) → IsSome (one_value vs) → get_or vs (length vs - 1) (pos 0) ≡ get_or vs 0 (pos 0)
list_same [] one = refl
list_same (v ∷ []) one = refl
list_same (v ∷ w ∷ vs) one = absurd (cc)

range_same : (vs : List ℤ) → AreEnds vs → IsSome (one_end vs) → get_or vs (length vs - 1) (pos 0) ≡ get_or vs 0 (pos 0)
range_same [] ends one = refl
range_same (v ∷ []) ends one = refl
range_same (lo ∷ hi ∷ []) ends one = by_test (int_eq lo hi) refl one
  where
    by_test : (b : Bool) → int_eq lo hi ≡ b → IsSome (cond b (Some lo) None) → hi ≡ lo
    by_test true e one = grind (arith, ints)
    by_test false e one = absurd (cc)
range_same (lo ∷ hi ∷ v ∷ vs) ends one = absurd ends

-- its ends are the same
pub ends_same : (kind : VarKind) (vs : List ℤ) → IsOrdered kind vs → IsSome (fixed_value kind vs) → get_or vs (length vs - 1) (pos 0) ≡ get_or vs 0 (pos 0)
ends_same Set vs ordered one = list_same vs one
ends_same Int vs ordered one = range_same vs ordered.order one
ends_same Real vs ordered one = absurd (cc)

list_fixed : (vs : List ℤ) → 0 < length vs → length vs ≤ 1 → IsSome (one_value vs)
list_fixed [] some most = absurd (omega (arith, some))
list_fixed (v ∷ []) some most = refl
list_fixed (v ∷ w ∷ vs) some most = absurd (omega (arith, most))

range_fixed : (vs : List ℤ) → AreEnds vs → 0 < length vs → range_size vs ≤ 1 → IsSome (one_end vs)
range_fixed [] ends some most = absurd (omega (arith, some))
range_fixed (v ∷ []) ends some most = absurd ends
range_fixed (lo ∷ hi ∷ vs) ends some most =
    let e : int_eq lo hi ≡ true = grind (arith, ints) in
    rw e refl

-- where no more than one value is left, but some, it is the one
pub fixed_of : (kind : VarKind) (vs : List ℤ) → kind ≢ Real → IsOrdered kind vs → 0 < length vs → size_in kind vs ≤ 1 → IsSome (fixed_value kind vs)
fixed_of Set vs discrete ordered some most = list_fixed vs some most
fixed_of Int vs discrete ordered some most = range_fixed vs ordered.order some most
fixed_of Real vs discrete ordered some most = absurd (discrete refl)

-- ---- an extent that a literal changes

-- other ends within these are less far apart
range_smaller : (lo hi x y : ℤ) → lo ≤ℤ x → y ≤ℤ hi → 0 < length (range x y) → range x y ≢ lo ∷ hi ∷ [] → range_size (range x y) < range_size (lo ∷ hi ∷ [])
range_smaller lo hi x y from to = by_test (int_le x y) refl
  where
    by_test : (b : Bool) → int_le x y ≡ b → 0 < length (cond b (x ∷ y ∷ []) []) → cond b (x ∷ y ∷ []) [] ≢ lo ∷ hi ∷ [] → range_size (cond b (x ∷ y ∷ []) []) < unsigned_abs (hi -ℤ lo) + 1
    by_test true e some other = by_ends (int_eq x lo) (int_eq y hi) refl refl
      where
        by_ends : (p q : Bool) → int_eq x lo ≡ p → int_eq y hi ≡ q → unsigned_abs (y -ℤ x) + 1 < unsigned_abs (hi -ℤ lo) + 1
        by_ends true true f g =
            let same : x ≡ lo = grind (arith, ints) in
            let also : y ≡ hi = grind (arith, ints) in
            absurd (other (cc))
        by_ends true false f g = grind (arith, ints)
        by_ends false q f g = grind (arith, ints)
    by_test false e some other = absurd (omega (arith, some))

kept_range_smaller : (l : Literal) (vs : List ℤ) → AreEnds vs → 0 < length (kept_range l vs) → kept_range l vs ≢ vs → range_size (kept_range l vs) < range_size vs
kept_range_smaller l [] ends some other = absurd (other refl)
kept_range_smaller l (v ∷ []) ends some other = absurd ends
kept_range_smaller l (lo ∷ hi ∷ []) ends some other =
    let c = cut_is l.test l.bound lo hi in
    let P : List ℤ → Type 0 = λ xs. 0 < length xs → xs ≢ lo ∷ hi ∷ [] → range_size xs < range_size (lo ∷ hi ∷ []) in
    let less : P (cut_range l.test l.bound lo hi) = rw c.2 (range_smaller lo hi c.0 c.1 c.3 c.4) in
    less some other
kept_range_smaller l (lo ∷ hi ∷ v ∷ vs) ends some other = absurd ends

pub kept_smaller : (kind : VarKind) (l : Literal) (vs : List ℤ) → IsOrdered kind vs → 0 < length (kept kind l vs) → kept kind l vs ≢ vs → size_in kind (kept kind l vs) < size_in kind vs
kept_smaller Set l vs ordered some other = other_fewer l vs other
kept_smaller Int l vs ordered some other = kept_range_smaller l vs ordered.order some other
kept_smaller Real l vs ordered some other = absurd (other refl)
