-- Ranges: what a test leaves of one, which points it keeps, and its ends.
use Rattle.std.proofs.Common.{◌≡◌, zero, suc, Bool, true, false, cond, List, [], ◌∷◌, refl, arith, subst}
use Rattle.std.specs.Prelude.{ℤ, pos, ◌+ℤ◌, ◌-ℤ◌, ◌*ℤ◌, ◌<ℤ◌, ◌≤ℤ◌, int_le, int_lt, All}
use Rattle.std.specs.Int.{int_max, int_min}
use Rattle.std.specs.Ordering.{int_eq}
use Rattle.std.proofs.lemmas.Int.{ints, clamps}
use Rattle.sm_kinds.specs.declared.literal.Literal.{Literal}
use Rattle.sm_kinds.specs.declared.literal.Test.{Test}
use Rattle.sm_kinds.specs.declared.literal.Test.TheVariants.{AtMost, AtLeast, Equal, Unequal}
use Rattle.sm_kinds.specs.Literals.{passes_test}
use Rattle.sm_kinds.specs.Vars.{IsBetween, LiesIn}
use Rattle.sm_kinds.specs.declared.var.VarKind.TheVariants.{Int}
use Rattle.sm_kinds.proofs.Multiples.{times_le}
use Rattle.sm_store.specs.Stores.{range, cut_range, kept_range, is_empty}

pub all_none : (P : ℤ → Type 0) → All P []
all_none P i d lt = absurd (omega arith)

pub all_two : (P : ℤ → Type 0) (a b : ℤ) → P a → P b → All P (a ∷ b ∷ [])
all_two P a b first second zero d lt = first
all_two P a b first second (suc zero) d lt = second
all_two P a b first second (suc (suc i)) d lt = absurd (omega arith)

-- the ends that a test leaves lie within those that there were
abbrev pub IsCut : Test → ℤ → ℤ → ℤ → Type 0
IsCut t b lo hi = (x : ℤ) × (y : ℤ) × (cut_range t b lo hi ≡ range x y) × (lo ≤ℤ x) × (y ≤ℤ hi)

cut_apart : (b lo hi : ℤ) → IsCut Unequal b lo hi
cut_apart b lo hi = cases (int_eq b lo) (int_eq b hi) refl refl
  where
    cases : (p q : Bool) → int_eq b lo ≡ p → int_eq b hi ≡ q → (x : ℤ) × (y : ℤ) × (cond p (range (lo +ℤ pos 1) hi) (cond q (range lo (hi -ℤ pos 1)) (range lo hi)) ≡ range x y) × (lo ≤ℤ x) × (y ≤ℤ hi)
    cases true q e f = (lo +ℤ pos 1, hi, refl, omega (arith, ints), omega (arith, ints))
    cases false true e f = (lo, hi -ℤ pos 1, refl, omega (arith, ints), omega (arith, ints))
    cases false false e f = (lo, hi, refl, omega (arith, ints), omega (arith, ints))

pub cut_is : (t : Test) (b lo hi : ℤ) → IsCut t b lo hi
cut_is AtMost b lo hi = (lo, int_min hi b, refl, omega (arith, ints), omega (arith, ints, clamps))
cut_is AtLeast b lo hi = (int_max lo b, hi, refl, omega (arith, ints, clamps), omega (arith, ints))
cut_is Equal b lo hi = (int_max lo b, int_min hi b, refl, omega (arith, ints, clamps), omega (arith, ints, clamps))
cut_is Unequal b lo hi = cut_apart b lo hi

pub times_mono : (a b d : ℤ) → pos 0 <ℤ d → a ≤ℤ b → (a *ℤ d) ≤ℤ (b *ℤ d)
times_mono a b d above le = let same = times_le a b d (omega (arith, ints)) in grind (arith, ints)

pub times_back : (a b d : ℤ) → pos 0 <ℤ d → (a *ℤ d) ≤ℤ (b *ℤ d) → a ≤ℤ b
times_back a b d above le = let same = times_le a b d (omega (arith, ints)) in grind (arith, ints)

-- what is between ends within others is between those
range_inside : (lo hi x y n d : ℤ) → pos 0 <ℤ d → lo ≤ℤ x → y ≤ℤ hi → IsBetween n d (range x y) → ((lo *ℤ d) ≤ℤ n) × (n ≤ℤ (hi *ℤ d))
range_inside lo hi x y n d above from to h = cases (int_le x y) h
  where
    cases : (c : Bool) → IsBetween n d (cond c (x ∷ y ∷ []) []) → ((lo *ℤ d) ≤ℤ n) × (n ≤ℤ (hi *ℤ d))
    cases true between = let one = times_mono lo x d above from in let two = times_mono y hi d above to in let first = between.0 in let second = between.1 in (omega (arith, ints), omega (arith, ints))
    cases false none = absurd none

pub from_range : (l : Literal) (n d : ℤ) (values : List ℤ) → pos 0 <ℤ d → IsBetween n d (kept_range l values) → IsBetween n d values
from_range l n d [] above h = h
from_range l n d (v ∷ []) above h = absurd h
from_range l n d (lo ∷ hi ∷ vs) above h =
    let c = cut_is l.test l.bound lo hi in
    let between : IsBetween n d (range c.0 c.1) = subst (λ values. IsBetween n d values) c.2 h in
    range_inside lo hi c.0 c.1 n d above c.3 c.4 between

-- a whole number between two ends
in_range : (x y z n d : ℤ) → pos 0 <ℤ d → n ≡ z *ℤ d → x ≤ℤ z → z ≤ℤ y → IsBetween n d (range x y)
in_range x y z n d above is from to =
    let ordered : int_le x y ≡ true = grind (arith, ints) in
    let one = times_mono x z d above from in
    let two = times_mono z y d above to in
    rw ordered (rw is one, rw is two)

in_apart : (b lo hi z n d : ℤ) → pos 0 <ℤ d → n ≡ z *ℤ d → passes_test Unequal b z ≡ true → lo ≤ℤ z → z ≤ℤ hi → IsBetween n d (cut_range Unequal b lo hi)
in_apart b lo hi z n d above is true_there from to = cases (int_eq b lo) (int_eq b hi) refl refl
  where
    cases : (p q : Bool) → int_eq b lo ≡ p → int_eq b hi ≡ q → IsBetween n d (cond p (range (lo +ℤ pos 1) hi) (cond q (range lo (hi -ℤ pos 1)) (range lo hi)))
    cases true q e f = in_range (lo +ℤ pos 1) hi z n d above is (grind (arith, ints)) to
    cases false true e f = in_range lo (hi -ℤ pos 1) z n d above is from (grind (arith, ints))
    cases false false e f = in_range lo hi z n d above is from to

in_cut : (t : Test) (b lo hi z n d : ℤ) → pos 0 <ℤ d → n ≡ z *ℤ d → passes_test t b z ≡ true → lo ≤ℤ z → z ≤ℤ hi → IsBetween n d (cut_range t b lo hi)
in_cut AtMost b lo hi z n d above is h from to =
    let le : z ≤ℤ b = grind (arith, ints) in in_range lo (int_min hi b) z n d above is from (omega (arith, ints, clamps))
in_cut AtLeast b lo hi z n d above is h from to =
    let ge : b ≤ℤ z = grind (arith, ints) in in_range (int_max lo b) hi z n d above is (omega (arith, ints, clamps)) to
in_cut Equal b lo hi z n d above is h from to =
    let same : z ≡ b = grind (arith, ints) in in_range (int_max lo b) (int_min hi b) z n d above is (omega (arith, ints, clamps)) (omega (arith, ints, clamps))
in_cut Unequal b lo hi z n d above is h from to = in_apart b lo hi z n d above is h from to

-- a whole number of the range of which the literal is true is one of what the literal leaves
pub in_kept_range : (l : Literal) (z n d : ℤ) (values : List ℤ) → pos 0 <ℤ d → n ≡ z *ℤ d → passes_test l.test l.bound z ≡ true → IsBetween n d values → IsBetween n d (kept_range l values)
in_kept_range l z n d [] above is h between = between
in_kept_range l z n d (v ∷ []) above is h between = absurd between
in_kept_range l z n d (lo ∷ hi ∷ vs) above is h between =
    in_cut l.test l.bound lo hi z n d above is h (times_back lo z d above (rw is at between.0)) (times_back z hi d above (rw is at between.1))

-- a whole number between the ends lies in the range
pub between_lies : (values : List ℤ) (x : ℤ) → IsBetween x (pos 1) values → LiesIn Int values x (pos 1)
between_lies values x h = (h, (x, omega (arith, ints)))

pub empty_range : (x y : ℤ) → is_empty (range x y) ≡ int_lt y x
empty_range x y = cases (int_le x y) refl
  where
    cases : (c : Bool) → int_le x y ≡ c → is_empty (cond c (x ∷ y ∷ []) []) ≡ int_lt y x
    cases true e = grind (arith, ints)
    cases false e = grind (arith, ints)

-- no number of the range is above the bound
pub empty_above : (b lo hi : ℤ) → lo ≤ℤ hi → is_empty (cut_range AtLeast (b +ℤ pos 1) lo hi) ≡ int_le hi b
empty_above b lo hi le = rw (empty_range (int_max lo (b +ℤ pos 1)) hi) (grind (arith, ints, clamps))

-- no number of the range is below the bound
pub empty_below : (b lo hi : ℤ) → lo ≤ℤ hi → is_empty (cut_range AtMost (b -ℤ pos 1) lo hi) ≡ int_le b lo
empty_below b lo hi le = rw (empty_range lo (int_min hi (b -ℤ pos 1))) (grind (arith, ints, clamps))
