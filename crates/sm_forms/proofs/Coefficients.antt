-- The terms of a form are the coefficients of what it comes to.
use Rattle.std.proofs.Common.{◌≡◌, ◌≢◌, ◌∙◌, ap, ap₂, refl, ℕ, zero, suc, arith, ℤ, pos, ◌<◌, ◌≤◌, ◌+◌, ◌==◌, inl, inr, List, [], ◌∷◌, Option, Some, None, if◌then◌else◌}
use Rattle.std.specs.Prelude.{unsigned_abs}
use Rattle.std.proofs.lemmas.Int.{ints}
use Rattle.std.proofs.lemmas.Bool.{cases_eq}
use Rattle.std.proofs.lemmas.Grind.{common_steps}
use Rattle.std.proofs.Math.IntN.{*ℤ-zero}
use Rattle.sm_kinds.specs.Sums.{sum_at}
use Rattle.sm_forms.specs.Meanings.{Meaning, nowhere, unit, coefficient, first, first_below, above, greatest_value, coefficient_above}
use Rattle.sm_forms.specs.Forms.{Rises}

-- the coefficient of variable i
abbrev pub coefficient_in : List (ℕ × ℤ) → ℕ → ℤ
coefficient_in [] i = pos 0
coefficient_in (t ∷ ts) i = if t.0 == i then t.1 else coefficient_in ts i

-- ---- sums where one variable is 1

pub sum_nowhere : (ts : List (ℕ × ℤ)) → sum_at ts nowhere.numerator ≡ pos 0
sum_nowhere [] = refl
sum_nowhere (t ∷ ts) = rw (sum_nowhere ts, *ℤ-zero t.1) refl

pub unit_same : (i j : ℕ) → j ≡ i → (unit i).numerator j ≡ pos 1
unit_same i j h = grind (arith, common_steps)

pub unit_other : (i j : ℕ) → j ≢ i → (unit i).numerator j ≡ pos 0
unit_other i j h = grind (arith, common_steps)

pub here : (t : ℕ × ℤ) (ts : List (ℕ × ℤ)) (i : ℕ) → t.0 ≡ i → coefficient_in (t ∷ ts) i ≡ t.1
here t ts i e = grind (arith, common_steps)

pub there : (t : ℕ × ℤ) (ts : List (ℕ × ℤ)) (i : ℕ) → t.0 ≢ i → coefficient_in (t ∷ ts) i ≡ coefficient_in ts i
there t ts i e = grind (arith, common_steps)

-- a variable before all terms
pub none_before : (n from i : ℕ) (ts : List (ℕ × ℤ)) → i < from → Rises n from ts → coefficient_in ts i ≡ pos 0
none_before n from i [] lt h = refl
none_before n from i (t ∷ ts) lt h =
    there t ts i (λ q. absurd (omega (arith, h.0.at_least))) ∙ none_before n (t.0 + 1) i ts (omega (arith, h.0.at_least)) h.1

-- a variable behind all terms
pub none_behind : (n from i : ℕ) (ts : List (ℕ × ℤ)) → n ≤ i → Rises n from ts → coefficient_in ts i ≡ pos 0
none_behind n from i [] le h = refl
none_behind n from i (t ∷ ts) le h = there t ts i (λ q. absurd (omega (arith, h.0.below))) ∙ none_behind n (t.0 + 1) i ts le h.1

pub sum_unit : (n from i : ℕ) (ts : List (ℕ × ℤ)) → Rises n from ts → sum_at ts (unit i).numerator ≡ coefficient_in ts i
sum_unit n from i [] h = refl
sum_unit n from i (t ∷ ts) h = elim (cases_eq t.0 i) [
  | inl e ↦ (let u = unit_same i t.0 e in
      let r : sum_at ts (unit i).numerator ≡ pos 0 = sum_unit n (t.0 + 1) i ts h.1 ∙ none_before n (t.0 + 1) i ts (omega arith) h.1 in
      rw (u, r, here t ts i e) (omega (arith, ints)))
  | inr ne ↦ (let u = unit_other i t.0 ne in let r = sum_unit n (t.0 + 1) i ts h.1 in
      rw (u, r, there t ts i ne) (omega (arith, ints, *ℤ-zero t.1)))
]

-- ---- the first answer

pub none_below : {X : Type 0} → (k : ℕ) (f : ℕ → Option X) → ((i : ℕ) → i < k → f i ≡ None) → first_below k f ≡ None
none_below zero f h = refl
none_below (suc k) f h = rw (none_below k f (λ i lt. h i (omega arith))) (h k (omega arith))

pub first_at : {X : Type 0} → (n k : ℕ) (f : ℕ → Option X) (x : X) → first_below k f ≡ None → f k ≡ Some x → k < n → first_below n f ≡ Some x
first_at zero k f x none h lt = absurd (omega arith)
first_at (suc n) k f x none h lt = elim (cases_eq k n) [
  | inl e ↦ (let e2 : first_below n f ≡ None = rw (← e) none in let h2 : f n ≡ Some x = rw (← e) h in rw (e2, h2) refl)
  | inr ne ↦ (let r = first_at n k f x none h (omega arith) in rw r refl)
]

pub first_same : {X : Type 0} → (n : ℕ) (f g : ℕ → Option X) → ((i : ℕ) → i < n → f i ≡ g i) → first_below n f ≡ first_below n g
first_same zero f g h = refl
first_same (suc n) f g h = ap₂ first (first_same n f g (λ i lt. h i (omega arith))) (h n (omega arith))

-- ---- numbers that are too large

pub small_is_none : (z : ℤ) → unsigned_abs z ≤ greatest_value → above greatest_value z ≡ None
small_is_none z h = grind (arith, common_steps)

pub coefficient_small : (n from i : ℕ) (ts : List (ℕ × ℤ)) → Rises n from ts → above greatest_value (coefficient_in ts i) ≡ None
coefficient_small n from i [] h = refl
coefficient_small n from i (t ∷ ts) h = elim (cases_eq t.0 i) [
  | inl e ↦ ap (above greatest_value) (here t ts i e) ∙ small_is_none t.1 h.0.small
  | inr ne ↦ ap (above greatest_value) (there t ts i ne) ∙ coefficient_small n (t.0 + 1) i ts h.1
]

-- no coefficient is too large of what has the coefficients of terms that rise
pub none_above : (n : ℕ) (g : Meaning) (ts : List (ℕ × ℤ)) → Rises n 0 ts → ((i : ℕ) → coefficient g i ≡ coefficient_in ts i) → coefficient_above greatest_value n g ≡ None
none_above n g ts h is = none_below n (λ i. above greatest_value (coefficient g i)) (λ i lt. ap (above greatest_value) (is i) ∙ coefficient_small n 0 i ts h)

-- of what has the coefficients of terms up to variable k, the coefficient of k is the first that is too large
pub first_above : (n k found : ℕ) (g : Meaning) (c : ℤ) (ts : List (ℕ × ℤ)) → k < n → Rises k 0 ts → ((i : ℕ) → i < k → coefficient g i ≡ coefficient_in ts i)
    → coefficient g k ≡ c → above greatest_value c ≡ Some found → coefficient_above greatest_value n g ≡ Some found
first_above n k found g c ts lt h before at large =
    first_at n k (λ i. above greatest_value (coefficient g i)) found
    (none_below k (λ i. above greatest_value (coefficient g i)) (λ i less. ap (above greatest_value) (before i less) ∙ coefficient_small k 0 i ts h))
    (ap (above greatest_value) at ∙ large) lt
