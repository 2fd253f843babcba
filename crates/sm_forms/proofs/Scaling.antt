-- A multiple of terms, made in place.
use Rattle.std.proofs.Common.{◌≡◌, ◌≢◌, ◌∙◌, ap, sym, refl, subst, ℕ, zero, suc, arith, ℤ, pos, negsuc, ◌<◌, ◌≤◌, ◌+◌, ◌*◌, List, [], ◌∷◌, length, drop, get_or, set, Option, None, Result, Ok, Err}
use Rattle.std.specs.Prelude.{◌+ℤ◌, ◌*ℤ◌, unsigned_abs}
use Rattle.std.proofs.lemmas.Int.{ints, unsigned_abs-mul}
use Rattle.std.proofs.lemmas.Grind.{common_steps}
use Rattle.std.proofs.Math.Path.{fun_ext}
use Rattle.std.proofs.Math.IntN.{*ℤ-zero}
use Rattle.sm_kinds.proofs.Multiples.{*ℤ_assoc, *ℤ-+ℤ}
use Rattle.sm_kinds.specs.Sums.{sum_at}
use Rattle.sm_forms.specs.Meanings.{Meaning, coefficient, first, above, greatest_value, coefficient_above, large_value}
use Rattle.sm_forms.specs.Forms.{Rises, IsFormOf, Comes, IsRefused}
use Rattle.sm_forms.specs.Merging.{terms_added}
use Rattle.sm_forms.specs.declared.form.Form.{Form}
use Rattle.sm_forms.specs.declared.refusal.FormRefusal.{FormRefusal}
use Rattle.sm_forms.specs.declared.refusal.FormRefusal.TheVariants.{TooLarge, OutOfMemory}
use Rattle.sm_forms.proofs.Coefficients.{coefficient_in, sum_unit, sum_nowhere, first_same}
use Rattle.sm_forms.proofs.Merges.{no_term, drop_split}
use Rattle.sm_forms.proofs.Queries.{first_in, first_terms, first_none}
use Rattle.sm_forms.proofs.Values.{sum_of, sums_are, terms_come, constant_comes, sum_comes}

-- the first i terms times `by`, and the others
abbrev pub part_scaled : ℤ → ℕ → List (ℕ × ℤ) → List (ℕ × ℤ)
part_scaled by zero ts = ts
part_scaled by (suc i) [] = []
part_scaled by (suc i) (t ∷ ts) = (t.0, by *ℤ t.1) ∷ part_scaled by i ts

abbrev pub all_scaled : ℤ → List (ℕ × ℤ) → List (ℕ × ℤ)
all_scaled by [] = []
all_scaled by (t ∷ ts) = (t.0, by *ℤ t.1) ∷ all_scaled by ts

pub length-part_scaled : (by : ℤ) (i : ℕ) (ts : List (ℕ × ℤ)) → length (part_scaled by i ts) ≡ length ts
length-part_scaled by zero ts = refl
length-part_scaled by (suc i) [] = refl
length-part_scaled by (suc i) (t ∷ ts) = ap suc (length-part_scaled by i ts)

pub get_or-part_scaled : (by : ℤ) (i : ℕ) (ts : List (ℕ × ℤ)) (d : ℕ × ℤ) → get_or (part_scaled by i ts) i d ≡ get_or ts i d
get_or-part_scaled by zero ts d = refl
get_or-part_scaled by (suc i) [] d = refl
get_or-part_scaled by (suc i) (t ∷ ts) d = get_or-part_scaled by i ts d

pub set-part_scaled : (by : ℤ) (i : ℕ) (ts : List (ℕ × ℤ)) → i < length ts
    → set (part_scaled by i ts) i ((get_or ts i no_term).0, by *ℤ (get_or ts i no_term).1) ≡ part_scaled by (suc i) ts
set-part_scaled by i [] lt = absurd (omega arith)
set-part_scaled by zero (t ∷ ts) lt = refl
set-part_scaled by (suc i) (t ∷ ts) lt = ap (λ us. (t.0, by *ℤ t.1) ∷ us) (set-part_scaled by i ts (omega arith))

pub part_scaled-all : (by : ℤ) (i : ℕ) (ts : List (ℕ × ℤ)) → i ≡ length ts → part_scaled by i ts ≡ all_scaled by ts
part_scaled-all by zero [] e = refl
part_scaled-all by zero (t ∷ ts) e = absurd (omega arith)
part_scaled-all by (suc i) [] e = refl
part_scaled-all by (suc i) (t ∷ ts) e = ap (λ us. (t.0, by *ℤ t.1) ∷ us) (part_scaled-all by i ts (omega arith))

-- ---- the terms of the multiple

pub sum_at-all_scaled : (by : ℤ) (ts : List (ℕ × ℤ)) (p : ℕ → ℤ) → sum_at (all_scaled by ts) p ≡ by *ℤ sum_at ts p
sum_at-all_scaled by [] p = sym (*ℤ-zero by)
sum_at-all_scaled by (t ∷ ts) p = omega (arith, ints, sum_at-all_scaled by ts p, *ℤ-+ℤ by (t.1 *ℤ p t.0) (sum_at ts p), *ℤ_assoc by t.1 (p t.0))

zero_abs : (z : ℤ) → unsigned_abs z ≡ 0 → z ≡ pos 0
zero_abs (pos n) h = ap pos h
zero_abs (negsuc n) h = absurd (omega arith)

pub zero_product : (a b : ℤ) → a ≢ pos 0 → a *ℤ b ≡ pos 0 → b ≡ pos 0
zero_product a b h e = zero_abs b (zero_factor (unsigned_abs a) (unsigned_abs b) (λ z. h (zero_abs a z)) (sym (unsigned_abs-mul a b) ∙ ap unsigned_abs e))
  where
    zero_factor : (m n : ℕ) → m ≢ 0 → m * n ≡ 0 → n ≡ 0
    zero_factor zero n h e = absurd (h refl)
    zero_factor (suc m) n h e = omega arith

small_of : (z : ℤ) → above greatest_value z ≡ None → unsigned_abs z ≤ greatest_value
small_of z h = grind (arith, common_steps)

-- whether a multiple of a number is too large
abbrev pub above_scaled : ℤ → ℤ → Option ℕ
above_scaled by z = above greatest_value (by *ℤ z)

pub rises-all_scaled : (by : ℤ) (n from : ℕ) (ts : List (ℕ × ℤ)) → by ≢ pos 0 → first_in (above_scaled by) ts ≡ None → Rises n from ts → Rises n from (all_scaled by ts)
rises-all_scaled by n from [] ne h a = tt
rises-all_scaled by n from (t ∷ ts) ne h a = let p = first_none (above_scaled by t.1) (first_in (above_scaled by) ts) h in (
  record { at_least = a.0.at_least; below = a.0.below; nonzero = λ z. a.0.nonzero (zero_product by t.1 ne z); small = small_of (by *ℤ t.1) p.0 },
  rises-all_scaled by n (t.0 + 1) ts ne p.1 a.1,
)

-- ---- the first coefficient that is too large

coefficient_scaled : (by : ℤ) (n i : ℕ) (ts : List (ℕ × ℤ)) → Rises n 0 ts → coefficient (terms_added [] by ts) i ≡ by *ℤ coefficient_in ts i
coefficient_scaled by n i ts a = rw (sum_unit n 0 i ts a, sum_nowhere ts) (omega (arith, ints, *ℤ-zero by))

pub above_first_scaled : (by : ℤ) (n : ℕ) (ts : List (ℕ × ℤ)) → Rises n 0 ts → coefficient_above greatest_value n (terms_added [] by ts) ≡ first_in (above_scaled by) ts
above_first_scaled by n ts a =
    first_same n (λ i. above greatest_value (coefficient (terms_added [] by ts) i)) (λ i. above_scaled by (coefficient_in ts i)) (λ i lt. ap (above greatest_value) (coefficient_scaled by n i ts a))
    ∙ first_terms (above_scaled by) (ap (above greatest_value) (*ℤ-zero by)) n ts a

pub scaling_stops : (by : ℤ) (i : ℕ) (ts : List (ℕ × ℤ)) (e : FormRefusal) (n : ℕ) → i < length ts → first_in (above_scaled by) (drop i ts) ≡ first_in (above_scaled by) ts
    → IsRefused (above_scaled by (get_or ts i no_term).1) e → Rises n 0 ts → IsRefused (coefficient_above greatest_value n (terms_added [] by ts)) e
scaling_stops by i ts OutOfMemory n lt kept large a = tt
scaling_stops by i ts (TooLarge found) n lt kept large a =
    above_first_scaled by n ts a ∙ sym kept ∙ ap (first_in (above_scaled by)) (drop_split ts i lt) ∙ ap (λ o. first o (first_in (above_scaled by) (drop (i + 1) ts))) large

pub scaling_goes_on : (by : ℤ) (i : ℕ) (ts : List (ℕ × ℤ)) → i < length ts → above_scaled by (get_or ts i no_term).1 ≡ None
    → first_in (above_scaled by) (drop i ts) ≡ first_in (above_scaled by) ts → first_in (above_scaled by) (drop (i + 1) ts) ≡ first_in (above_scaled by) ts
scaling_goes_on by i ts lt none kept = sym (sym kept ∙ ap (first_in (above_scaled by)) (drop_split ts i lt) ∙ ap (λ o. first o (first_in (above_scaled by) (drop (i + 1) ts))) none)

-- ---- as a sum with nothing

abbrev pub nothing : Form
nothing = record { terms = []; constant = pos 0 }

pub nothing_is : (n : ℕ) → IsFormOf n (λ a. pos 0) nothing
nothing_is n = record { form = record { terms = tt; constant = omega arith }; comes_to = λ a. zeros a.denominator }
  where
    zeros : (d : ℤ) → pos 0 ≡ pos 0 +ℤ (pos 0 *ℤ d)
    zeros d = omega (arith, ints)

pub times_only : (by : ℤ) (g : Meaning) → sum_of (λ a. pos 0) by g ≡ (λ a. by *ℤ g a)
times_only by g = fun_ext (λ a. zero_before (by *ℤ g a))
  where
    zero_before : (x : ℤ) → pos 0 +ℤ x ≡ x
    zero_before x = omega (arith, ints)

module _ (n : ℕ) (g : Meaning) (f : Form) (by : ℤ) (h : IsFormOf n g f) where
  as_sum : (r : Result Form FormRefusal) → Comes (large_value n (sum_of (λ a. pos 0) by g)) (IsFormOf n (sum_of (λ a. pos 0) by g)) r → Comes (large_value n (λ a. by *ℤ g a)) (IsFormOf n (λ a. by *ℤ g a)) r
  as_sum r c = subst (λ (k : Meaning). Comes (large_value n k) (IsFormOf n k) r) (times_only by g) c

  zero_before : (x y : ℤ) → x ≡ y → x ≡ pos 0 +ℤ y
  zero_before x y e = omega (arith, ints, e)

  pub scaled_terms_come : (e : FormRefusal) → IsRefused (coefficient_above greatest_value n (terms_added [] by f.terms)) e → Comes (large_value n (λ a. by *ℤ g a)) (IsFormOf n (λ a. by *ℤ g a)) (Err e)
  scaled_terms_come e large = as_sum (Err e) (terms_come n (λ a. pos 0) g nothing by f (nothing_is n) h e large)

  pub scaled_constant_comes : (v : List (ℕ × ℤ)) → Rises n 0 v → ((p : ℕ → ℤ) → sum_at v p ≡ by *ℤ sum_at f.terms p) → (e : FormRefusal) → IsRefused (above greatest_value (by *ℤ f.constant)) e
      → Comes (large_value n (λ a. by *ℤ g a)) (IsFormOf n (λ a. by *ℤ g a)) (Err e)
  scaled_constant_comes v rises total e large =
      let zero : by *ℤ f.constant ≡ pos 0 +ℤ (by *ℤ f.constant) = zero_before _ (by *ℤ f.constant) refl in
      as_sum (Err e) (constant_comes n (sum_of (λ a. pos 0) by g) v (pos 0 +ℤ (by *ℤ f.constant)) rises
      (sums_are n (λ a. pos 0) g nothing by f (nothing_is n) h v (λ p. zero_before (sum_at v p) (by *ℤ sum_at f.terms p) (total p))) e (rw zero at large))

  pub scaled_comes : (s : Form) → Rises n 0 s.terms → ((p : ℕ → ℤ) → sum_at s.terms p ≡ by *ℤ sum_at f.terms p) → s.constant ≡ by *ℤ f.constant → unsigned_abs s.constant ≤ greatest_value
      → Comes (large_value n (λ a. by *ℤ g a)) (IsFormOf n (λ a. by *ℤ g a)) (Ok s)
  scaled_comes s rises total c small =
      as_sum (Ok s) (sum_comes n (λ a. pos 0) g nothing by f (nothing_is n) h s rises (λ p. zero_before (sum_at s.terms p) (by *ℤ sum_at f.terms p) (total p))
      (zero_before s.constant (by *ℤ f.constant) c) small)
