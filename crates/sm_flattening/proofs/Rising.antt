-- Numbers in increasing order, and how far a list of numbers reaches.
use Rattle.std.proofs.Common.{◌≡◌, ap, refl, subst, ℕ, zero, suc, arith, ◌<◌, ◌≤◌, ◌+◌, ◌-◌, List, [], ◌∷◌, length, get_or, ℤ, pos, ◌==◌, unsigned_abs, Bool, true, false, if◌then◌else◌}
use Rattle.std.specs.Prelude.{All, ◌+ℤ◌, ◌-ℤ◌, ◌<ℤ◌, ◌≤ℤ◌, int_lt, int_le}
use Rattle.std.specs.Ordering.{int_eq}
use Rattle.std.proofs.lemmas.Grind.{common_steps}
use Rattle.std.proofs.lemmas.Int.{ints}
use Rattle.std.proofs.lemmas.List.Elements.{All-nil, All-cons, All-head, All-tail, All-weaker}
use Rattle.sm_kinds.specs.Vars.{IsRising, width_of}
use Rattle.sm_meaning.specs.declared.range.Range.{Range}
use Rattle.sm_meaning.specs.Tuples.{size_of, count_up, numbers_of}
use Rattle.sm_meaning.specs.Limits.{least_of, greatest_of}
use Rattle.sm_meaning.specs.Declarations.{inserted, rising, span_width}

-- ---- increasing order

-- each number is below all later ones
abbrev pub Ascends : List ℤ → Type 0
Ascends [] = Unit {0}
Ascends (z ∷ zs) = All (λ x. z <ℤ x) zs × Ascends zs

pub ascends_rises : (zs : List ℤ) → Ascends zs → IsRising zs
ascends_rises [] h k lt = absurd (omega arith)
ascends_rises (z ∷ zs) h zero lt = h.0 0 (pos 0) (omega arith)
ascends_rises (z ∷ zs) h (suc k) lt = subst (λ (i : ℕ). get_or zs k (pos 0) <ℤ get_or (z ∷ zs) i (pos 0)) (next k) (ascends_rises zs h.1 k (omega arith))
  where
    next : (k : ℕ) → suc (k + 1) ≡ suc k + 1
    next k = omega arith

-- ---- inserted

module _ (P : ℤ → Type 0) where
  pub each_inserted : (z : ℤ) (xs : List ℤ) → P z → All P xs → All P (inserted z xs)
  each_inserted z [] p h = All-cons P z [] p h
  each_inserted z (x ∷ xs) p h = below (int_lt z x) (each_inserted z xs p (All-tail P x xs h))
    where
      same : (b : Bool) → All P (inserted z xs) → All P (if b then x ∷ xs else x ∷ inserted z xs)
      same true rest = h
      same false rest = All-cons P x (inserted z xs) (All-head P x xs h) rest

      below : (b : Bool) → All P (inserted z xs) → All P (if b then z ∷ x ∷ xs else (if int_eq z x then x ∷ xs else x ∷ inserted z xs))
      below true rest = All-cons P z (x ∷ xs) p h
      below false rest = same (int_eq z x) rest

  pub each_rising : (zs : List ℤ) → All P zs → All P (rising zs)
  each_rising [] h = h
  each_rising (z ∷ zs) h = each_inserted z (rising zs) (All-head P z zs h) (each_rising zs (All-tail P z zs h))

inserted_ascends : (z : ℤ) (xs : List ℤ) → Ascends xs → Ascends (inserted z xs)
inserted_ascends z [] h = (All-nil (λ x. z <ℤ x), tt)
inserted_ascends z (x ∷ xs) h = below (int_lt z x) refl (inserted_ascends z xs h.1)
  where
    next : int_lt z x ≡ false → int_eq z x ≡ false → x <ℤ z
    next e f = grind (arith, common_steps)

    same : (b : Bool) → int_lt z x ≡ false → int_eq z x ≡ b → Ascends (inserted z xs) → Ascends (if b then x ∷ xs else x ∷ inserted z xs)
    same true e f rest = h
    same false e f rest = (each_inserted (λ y. x <ℤ y) z xs (next e f) h.0, rest)

    below : (b : Bool) → int_lt z x ≡ b → Ascends (inserted z xs) → Ascends (if b then z ∷ x ∷ xs else (if int_eq z x then x ∷ xs else x ∷ inserted z xs))
    below true e rest =
        let before : z <ℤ x = omega (arith, ints) in
        (All-cons (λ y. z <ℤ y) x xs before (λ k d lt. let after = h.0 k d lt in omega (arith, ints)), h)
    below false e rest = same (int_eq z x) e refl rest

pub rising_ascends : (zs : List ℤ) → Ascends (rising zs)
rising_ascends [] = tt
rising_ascends (z ∷ zs) = inserted_ascends z (rising zs) (rising_ascends zs)

inserted_some : (z : ℤ) (xs : List ℤ) → 0 < length (inserted z xs)
inserted_some z [] = omega arith
inserted_some z (x ∷ xs) = below (int_lt z x)
  where
    same : (b : Bool) → 0 < length (if b then x ∷ xs else x ∷ inserted z xs)
    same true = omega arith
    same false = omega arith

    below : (b : Bool) → 0 < length (if b then z ∷ x ∷ xs else (if int_eq z x then x ∷ xs else x ∷ inserted z xs))
    below true = omega arith
    below false = same (int_eq z x)

pub rising_some : (z : ℤ) (zs : List ℤ) → 0 < length (rising (z ∷ zs))
rising_some z zs = inserted_some z (rising zs)

-- ---- the numbers of a range

abbrev pub IsIn : ℤ → ℤ → ℤ → Type 0
IsIn low high v = (low ≤ℤ v) × (v ≤ℤ high)

count_within : (k : ℕ) (low high z : ℤ) → low ≤ℤ z → (z +ℤ pos k) ≤ℤ (high +ℤ pos 1) → All (IsIn low high) (count_up k z)
count_within zero low high z from to = All-nil (IsIn low high)
count_within (suc k) low high z from to =
    All-cons (IsIn low high) z (count_up k (z +ℤ pos 1)) (from, omega (arith, ints))
    (count_within k low high (z +ℤ pos 1) (omega (arith, ints)) (omega (arith, ints)))

count_ascends : (k : ℕ) (z : ℤ) → Ascends (count_up k z)
count_ascends zero z = tt
count_ascends (suc k) z = (
  All-weaker (IsIn (z +ℤ pos 1) (z +ℤ pos k)) (λ x. z <ℤ x) (λ x h. let least = h.0 in omega (arith, ints)) (count_up k (z +ℤ pos 1))
      (count_within k (z +ℤ pos 1) (z +ℤ pos k) (z +ℤ pos 1) (omega (arith, ints)) (omega (arith, ints))),
  count_ascends k (z +ℤ pos 1),
)

count_length : (k : ℕ) (z : ℤ) → length (count_up k z) ≡ k
count_length zero z = refl
count_length (suc k) z = ap suc (count_length k (z +ℤ pos 1))

pub some_ordered : (r : Range) → (size_of r == 0) ≡ false → r.least ≤ℤ r.greatest
some_ordered r h = by_case (int_le r.least r.greatest) refl h
  where
    by_case : (b : Bool) → int_le r.least r.greatest ≡ b → ((if b then unsigned_abs (r.greatest -ℤ r.least) + 1 else 0) == 0) ≡ false → r.least ≤ℤ r.greatest
    by_case true e q = omega (arith, ints)
    by_case false e q = absurd (let r : true ≡ false = q in cc)

size_is : (r : Range) → r.least ≤ℤ r.greatest → size_of r ≡ unsigned_abs (r.greatest -ℤ r.least) + 1
size_is r h = by_case (int_le r.least r.greatest) refl
  where
    by_case : (b : Bool) → int_le r.least r.greatest ≡ b → (if b then unsigned_abs (r.greatest -ℤ r.least) + 1 else 0) ≡ unsigned_abs (r.greatest -ℤ r.least) + 1
    by_case true e = refl
    by_case false e = absurd (omega (arith, ints))

pub numbers_ascend : (r : Range) → Ascends (numbers_of r)
numbers_ascend r = count_ascends (size_of r) r.least

pub numbers_length : (r : Range) → length (numbers_of r) ≡ size_of r
numbers_length r = count_length (size_of r) r.least

pub numbers_within : (r : Range) → r.least ≤ℤ r.greatest → All (IsIn r.least r.greatest) (numbers_of r)
numbers_within r h =
    let size = size_is r h in
    count_within (size_of r) r.least r.greatest r.least (omega (arith, ints)) (omega (arith, ints))

pub numbers_some : (r : Range) → (size_of r == 0) ≡ false → 0 < length (numbers_of r)
numbers_some r some = positive (size_of r) some (numbers_length r)
  where
    positive : (n : ℕ) → (n == 0) ≡ false → length (numbers_of r) ≡ n → 0 < length (numbers_of r)
    positive zero none e = absurd (let q : true ≡ false = none in cc)
    positive (suc n) none e = omega arith

-- ---- how far numbers reach

-- numbers between two ends are no wider than these are apart
narrow : (r : Range) (zs : List ℤ) → 0 < length zs → All (IsIn r.least r.greatest) zs → width_of zs ≤ size_of r
narrow r zs some h =
    let low = h 0 (pos 0) some in
    let high = h (length zs - 1) (pos 0) (omega arith) in
    let first_low = low.0 in
    let first_high = low.1 in
    let last_low = high.0 in
    let last_high = high.1 in
    let ordered : r.least ≤ℤ r.greatest = omega (arith, ints) in
    let size = size_is r ordered in
    omega (arith, ints)

pub numbers_narrow : (r : Range) → (size_of r == 0) ≡ false → width_of (numbers_of r) ≤ size_of r
numbers_narrow r some = narrow r (numbers_of r) (numbers_some r some) (numbers_within r (some_ordered r some))

le_through : (x y z : ℤ) → x ≤ℤ y → y ≤ℤ z → x ≤ℤ z
le_through x y z h k = omega (arith, ints)

lesser : (z x : ℤ) → ((if int_lt x z then x else z) ≤ℤ z) × ((if int_lt x z then x else z) ≤ℤ x)
lesser z x = by_test (int_lt x z) refl
  where
    by_test : (test : Bool) → int_lt x z ≡ test → ((if test then x else z) ≤ℤ z) × ((if test then x else z) ≤ℤ x)
    by_test true e = (omega (arith, ints), omega (arith, ints))
    by_test false e = (omega (arith, ints), omega (arith, ints))

greater : (z x : ℤ) → (z ≤ℤ (if int_lt z x then x else z)) × (x ≤ℤ (if int_lt z x then x else z))
greater z x = by_test (int_lt z x) refl
  where
    by_test : (test : Bool) → int_lt z x ≡ test → (z ≤ℤ (if test then x else z)) × (x ≤ℤ (if test then x else z))
    by_test true e = (omega (arith, ints), omega (arith, ints))
    by_test false e = (omega (arith, ints), omega (arith, ints))

-- the least is at most what the rest begins with, and this at most both numbers before
pub least_within : (z : ℤ) (zs : List ℤ) → All (λ x. least_of z zs ≤ℤ x) (z ∷ zs)
least_within z [] = All-cons (λ x. z ≤ℤ x) z [] (omega (arith, ints)) (All-nil (λ x. z ≤ℤ x))
least_within z (x ∷ xs) =
    let next = if int_lt x z then x else z in
    let least = least_of next xs in
    let rest = least_within next xs in
    let first = All-head (λ y. least ≤ℤ y) next xs rest in
    let two = lesser z x in
    All-cons (λ y. least ≤ℤ y) z (x ∷ xs) (le_through least next z first two.0)
    (All-cons (λ y. least ≤ℤ y) x xs (le_through least next x first two.1) (All-tail (λ y. least ≤ℤ y) next xs rest))

pub greatest_within : (z : ℤ) (zs : List ℤ) → All (λ x. x ≤ℤ greatest_of z zs) (z ∷ zs)
greatest_within z [] = All-cons (λ x. x ≤ℤ z) z [] (omega (arith, ints)) (All-nil (λ x. x ≤ℤ z))
greatest_within z (x ∷ xs) =
    let next = if int_lt z x then x else z in
    let greatest = greatest_of next xs in
    let rest = greatest_within next xs in
    let first = All-head (λ y. y ≤ℤ greatest) next xs rest in
    let two = greater z x in
    All-cons (λ y. y ≤ℤ greatest) z (x ∷ xs) (le_through z next greatest two.0 first)
    (All-cons (λ y. y ≤ℤ greatest) x xs (le_through x next greatest two.1 first) (All-tail (λ y. y ≤ℤ greatest) next xs rest))

-- from the least to the greatest of numbers
abbrev pub span_of : ℤ → List ℤ → Range
span_of z zs = record { least = least_of z zs; greatest = greatest_of z zs }

span_within : (z : ℤ) (zs : List ℤ) → All (IsIn (least_of z zs) (greatest_of z zs)) (z ∷ zs)
span_within z zs = λ k d lt. (least_within z zs k d lt, greatest_within z zs k d lt)

-- the ends of a list are no further apart than its least and greatest numbers
pub width_in_span : (zs : List ℤ) → 0 < length zs → width_of zs ≤ span_width zs
width_in_span [] some = absurd (omega arith)
width_in_span (z ∷ zs) some = narrow (span_of z zs) (z ∷ zs) some (span_within z zs)

-- in increasing order too
pub rising_in_span : (z : ℤ) (zs : List ℤ) → width_of (rising (z ∷ zs)) ≤ span_width (z ∷ zs)
rising_in_span z zs = narrow (span_of z zs) (rising (z ∷ zs)) (rising_some z zs) (each_rising (IsIn (least_of z zs) (greatest_of z zs)) (z ∷ zs) (span_within z zs))
