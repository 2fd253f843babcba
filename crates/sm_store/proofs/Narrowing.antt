-- A literal and its complement part the assignments of a store.
use Rattle.std.proofs.Common.{◌≡◌, ℕ, ◌<◌, ◌⊎◌, Bool, true, false, cond, not, List, [], ◌∷◌, length, set, refl, arith, inl, inr, get_or-set_same, get_or-set_other}
use Rattle.std.specs.Prelude.{ℤ, pos, ◌*ℤ◌, ◌<ℤ◌, filter}
use Rattle.std.specs.Ordering.{int_eq}
use Rattle.std.proofs.lemmas.Bool.{cases_eq}
use Rattle.std.proofs.lemmas.Int.{ints}
use Rattle.std.proofs.lemmas.List.{length-set}
use Rattle.sm_kinds.specs.declared.literal.Literal.{Literal}
use Rattle.sm_kinds.specs.declared.literal.Test.{Test}
use Rattle.sm_kinds.specs.declared.literal.Test.TheVariants.{AtMost, AtLeast, Equal, Unequal}
use Rattle.sm_kinds.specs.declared.var.VarKind.{VarKind}
use Rattle.sm_kinds.specs.declared.var.VarKind.TheVariants.{Set, Int, Real}
use Rattle.sm_kinds.specs.Literals.{passes, passes_test, opposite, beyond, complement}
use Rattle.sm_kinds.specs.Vars.{IsOneOf, LiesIn}
use Rattle.sm_kinds.specs.Points.{Point}
use Rattle.sm_store.proofs.Ranges.{from_range, in_kept_range}
use Rattle.sm_store.specs.Stores.{Extent, no_extent, extent_at, Lies, In, kept, narrowed, narrow}

true_or_false : (b : Bool) → (b ≡ true) ⊎ (not b ≡ true)
true_or_false true = inl refl
true_or_false false = inr refl

false_or_true : (b : Bool) → (not b ≡ true) ⊎ (b ≡ true)
false_or_true true = inr refl
false_or_true false = inl refl

passes_test_or : (t : Test) (b v : ℤ) → (passes_test t b v ≡ true) ⊎ (passes_test (opposite t) (beyond t b) v ≡ true)
passes_test_or AtMost b v = grind (arith, ints)
passes_test_or AtLeast b v = grind (arith, ints)
passes_test_or Equal b v = true_or_false (int_eq v b)
passes_test_or Unequal b v = false_or_true (int_eq v b)

pub passes_or : (l : Literal) (v : ℤ) → (passes l v ≡ true) ⊎ (passes (complement l) v ≡ true)
passes_or l v = passes_test_or l.test l.bound v

one_cons : (n d : ℤ) (p : ℤ → Bool) (v : ℤ) (vs : List ℤ) → IsOneOf n d (filter p vs) → IsOneOf n d (filter p (v ∷ vs))
one_cons n d p v vs h = cases (p v)
  where
    cases : (b : Bool) → IsOneOf n d (cond b (v ∷ filter p vs) (filter p vs))
    cases true = inr h
    cases false = h

one_here : (n d : ℤ) (p : ℤ → Bool) (v : ℤ) (vs : List ℤ) → p v ≡ true → n ≡ v *ℤ d → IsOneOf n d (filter p (v ∷ vs))
one_here n d p v vs e h = rw e (inl h)

-- a value is among those of one test or among those of the other
one_filter : (n d : ℤ) (p q : ℤ → Bool) → ((v : ℤ) → (p v ≡ true) ⊎ (q v ≡ true)) → (vs : List ℤ) → IsOneOf n d vs → IsOneOf n d (filter p vs) ⊎ IsOneOf n d (filter q vs)
one_filter n d p q either [] h = elim h [ ]
one_filter n d p q either (v ∷ vs) h = elim h [
  | inl here ↦ elim (either v) [
    | inl e ↦ inl (one_here n d p v vs e here)
    | inr e ↦ inr (one_here n d q v vs e here)
  ]
  | inr there ↦ elim (one_filter n d p q either vs there) [
    | inl x ↦ inl (one_cons n d p v vs x)
    | inr x ↦ inr (one_cons n d q v vs x)
  ]
]

pub one_from_filter : (n d : ℤ) (p : ℤ → Bool) (vs : List ℤ) → IsOneOf n d (filter p vs) → IsOneOf n d vs
one_from_filter n d p [] h = h
one_from_filter n d p (v ∷ vs) h = cases (p v) (one_from_filter n d p vs) h
  where
    cases : (b : Bool) → (IsOneOf n d (filter p vs) → IsOneOf n d vs) → IsOneOf n d (cond b (v ∷ filter p vs) (filter p vs)) → IsOneOf n d (v ∷ vs)
    cases true rest (inl here) = inl here
    cases true rest (inr there) = inr (rest there)
    cases false rest h = inr (rest h)

kept_or : (kind : VarKind) (l : Literal) (n d : ℤ) (vs : List ℤ) → pos 0 <ℤ d → LiesIn kind vs n d → LiesIn kind (kept kind l vs) n d ⊎ LiesIn kind (kept kind (complement l) vs) n d
kept_or Set l n d vs above h = one_filter n d (passes l) (passes (complement l)) (passes_or l) vs h
kept_or Int l n d vs above h = elim (passes_or l h.1.0) [
  | inl e ↦ inl (in_kept_range l h.1.0 n d vs above h.1.1 e h.0, h.1)
  | inr e ↦ inr (in_kept_range (complement l) h.1.0 n d vs above h.1.1 e h.0, h.1)
]
kept_or Real l n d vs above h = inl h

pub from_kept : (kind : VarKind) (l : Literal) (n d : ℤ) (vs : List ℤ) → pos 0 <ℤ d → LiesIn kind (kept kind l vs) n d → LiesIn kind vs n d
from_kept Set l n d vs above h = one_from_filter n d (passes l) vs h
from_kept Int l n d vs above h = (from_range l n d vs above h.0, h.1)
from_kept Real l n d vs above h = h

-- a store with one domain replaced by another that holds the value
pub In-set : (a : Point) (store : List Extent) (i : ℕ) (e : Extent) → In a store → Lies a i e → In a (set store i e)
In-set a store i e h new k lt =
    let lt' : k < length store = omega (arith, length-set store i e) in
    elim (cases_eq k i) [
      | inl same ↦ let lt'' : i < length store = omega arith in rw (same, get_or-set_same store i e no_extent lt'') new
      | inr other ↦ rw (get_or-set_other store i k e no_extent other) (h k lt')
    ]

-- an assignment of the store lies in the part of the literal or in that of its complement
pub In-narrow : (a : Point) (store : List Extent) (l : Literal) → pos 0 <ℤ a.denominator → l.var < length store → In a store → In a (narrow store l) ⊎ In a (narrow store (complement l))
In-narrow a store l above lt h =
    let e = extent_at store l.var in
    elim (kept_or e.kind l (a.numerator l.var) a.denominator e.values above (h l.var lt)) [
      | inl x ↦ inl (In-set a store l.var (narrowed l e) h x)
      | inr x ↦ inr (In-set a store l.var (narrowed (complement l) e) h x)
    ]

pub In-from_narrow : (a : Point) (store : List Extent) (l : Literal) → pos 0 <ℤ a.denominator → In a (narrow store l) → In a store
In-from_narrow a store l above h k lt =
    let e = extent_at store l.var in
    let lt' : k < length (set store l.var (narrowed l e)) = omega (arith, length-set store l.var (narrowed l e)) in
    elim (cases_eq k l.var) [
      | inl same ↦
          let lt'' : l.var < length store = omega arith in
          let x : Lies a l.var (narrowed l e) = rw (same, get_or-set_same store l.var (narrowed l e) no_extent lt'') at (h k lt') in
          rw same (from_kept e.kind l (a.numerator l.var) a.denominator e.values above x)
      | inr other ↦ rw (get_or-set_other store l.var k (narrowed l e) no_extent other) at (h k lt')
    ]
