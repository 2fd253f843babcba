-- What forms come to, and the numbers of what they come to.
use Rattle.std.proofs.Common.{◌≡◌, ◌∙◌, ap, ap₂, sym, ℕ, arith, ℤ, pos, negsuc, ◌≤◌, List, None, Ok, Err}
use Rattle.std.specs.Prelude.{◌+ℤ◌, ◌-ℤ◌, ◌*ℤ◌, unsigned_abs}
use Rattle.std.proofs.lemmas.Int.{ints}
use Rattle.std.proofs.Math.Path.{fun_ext}
use Rattle.sm_kinds.proofs.Multiples.{*ℤ_assoc, *ℤ-+ℤ, +ℤ-*ℤ}
use Rattle.sm_kinds.specs.Sums.{sum_at}
use Rattle.sm_forms.specs.Meanings.{Values, Meaning, nowhere, unit, coefficient, constant_of, first, above, greatest_value, coefficient_above, large_value}
use Rattle.sm_forms.specs.Forms.{Rises, IsFormOf, Comes, IsRefused}
use Rattle.sm_forms.specs.Merging.{terms_added}
use Rattle.sm_forms.specs.declared.form.Form.{Form}
use Rattle.sm_forms.specs.declared.refusal.FormRefusal.{FormRefusal}
use Rattle.sm_forms.specs.declared.refusal.FormRefusal.TheVariants.{TooLarge, OutOfMemory}
use Rattle.sm_forms.proofs.Coefficients.{coefficient_in, sum_unit, sum_nowhere, first_same, small_is_none, none_above}

-- ---- what terms that rise and a constant come to, whatever the size of the constant

module _ (n : ℕ) (g : Meaning) (ts : List (ℕ × ℤ)) (k : ℤ) (rises : Rises n 0 ts) (is : (a : Values) → g a ≡ sum_at ts a.numerator +ℤ (k *ℤ a.denominator)) where
  pub coefficients : (i : ℕ) → coefficient g i ≡ coefficient_in ts i
  coefficients i = omega (arith, ints, is (unit i), is nowhere, sum_unit n 0 i ts rises, sum_nowhere ts)

  pub constants : constant_of g ≡ k
  constants = omega (arith, ints, is nowhere, sum_nowhere ts)

  pub constant_comes : (e : FormRefusal) → IsRefused (above greatest_value k) e → Comes (large_value n g) (IsFormOf n g) (Err e)
  constant_comes OutOfMemory large = tt
  constant_comes (TooLarge found) large =
      ap₂ first (none_above n g ts rises coefficients) (ap (above greatest_value) constants ∙ large)

  pub none_large : unsigned_abs k ≤ greatest_value → large_value n g ≡ None
  none_large small = ap₂ first (none_above n g ts rises coefficients) (ap (above greatest_value) constants ∙ small_is_none k small)

-- a form comes to its meaning, so none of its numbers is too large
pub comes_of : (n : ℕ) (g : Meaning) (f : Form) → IsFormOf n g f → Comes (large_value n g) (IsFormOf n g) (Ok f)
comes_of n g f h = (none_large n g f.terms f.constant h.form.terms h.comes_to h.form.constant, h)

-- ---- a form and a multiple of another

abbrev pub sum_of : Meaning → ℤ → Meaning → Meaning
sum_of g by h a = g a +ℤ (by *ℤ h a)

-- what both come to, from the sum of their terms and that of their constants
summed : (s c by t k d v : ℤ) → v ≡ s +ℤ (by *ℤ t) → (s +ℤ (c *ℤ d)) +ℤ (by *ℤ (t +ℤ (k *ℤ d))) ≡ v +ℤ ((c +ℤ (by *ℤ k)) *ℤ d)
summed s c by t k d v e = omega (arith, ints, e, *ℤ-+ℤ by t (k *ℤ d), *ℤ_assoc by k d, +ℤ-*ℤ c (by *ℤ k) d)

-- the constants don't matter to a coefficient
grown : (s c by t k s' t' : ℤ) → ((s +ℤ (c *ℤ pos 1)) +ℤ (by *ℤ (t +ℤ (k *ℤ pos 1)))) -ℤ ((s' +ℤ (c *ℤ pos 1)) +ℤ (by *ℤ (t' +ℤ (k *ℤ pos 1)))) ≡ (s +ℤ (by *ℤ t)) -ℤ (s' +ℤ (by *ℤ t'))
grown s c by t k s' t' = omega (arith, ints, *ℤ-+ℤ by t (k *ℤ pos 1), *ℤ-+ℤ by t' (k *ℤ pos 1))

module _ (n : ℕ) (g h : Meaning) (left : Form) (by : ℤ) (right : Form) (p : IsFormOf n g left) (q : IsFormOf n h right) where
  pub sums_are : (v : List (ℕ × ℤ)) → ((x : ℕ → ℤ) → sum_at v x ≡ sum_at left.terms x +ℤ (by *ℤ sum_at right.terms x))
      → (a : Values) → sum_of g by h a ≡ sum_at v a.numerator +ℤ ((left.constant +ℤ (by *ℤ right.constant)) *ℤ a.denominator)
  sums_are v e a = rw (p.comes_to a, q.comes_to a) (summed (sum_at left.terms a.numerator) left.constant by (sum_at right.terms a.numerator) right.constant a.denominator (sum_at v a.numerator) (e a.numerator))

  coefficients_are : (i : ℕ) → coefficient (sum_of g by h) i ≡ coefficient (terms_added left.terms by right.terms) i
  coefficients_are i = rw (p.comes_to (unit i), q.comes_to (unit i), p.comes_to nowhere, q.comes_to nowhere)
      (grown (sum_at left.terms (unit i).numerator) left.constant by (sum_at right.terms (unit i).numerator) right.constant (sum_at left.terms nowhere.numerator) (sum_at right.terms nowhere.numerator))

  pub terms_come : (e : FormRefusal) → IsRefused (coefficient_above greatest_value n (terms_added left.terms by right.terms)) e → Comes (large_value n (sum_of g by h)) (IsFormOf n (sum_of g by h)) (Err e)
  terms_come OutOfMemory large = tt
  terms_come (TooLarge found) large =
      ap (λ o. first o (above greatest_value (constant_of (sum_of g by h))))
      (first_same n (λ i. above greatest_value (coefficient (sum_of g by h) i)) (λ i. above greatest_value (coefficient (terms_added left.terms by right.terms) i)) (λ i lt. ap (above greatest_value) (coefficients_are i)) ∙ large)

  -- the form that has the sum of the terms and that of the constants
  pub sum_comes : (f : Form) → Rises n 0 f.terms → ((x : ℕ → ℤ) → sum_at f.terms x ≡ sum_at left.terms x +ℤ (by *ℤ sum_at right.terms x))
      → f.constant ≡ left.constant +ℤ (by *ℤ right.constant) → unsigned_abs f.constant ≤ greatest_value → Comes (large_value n (sum_of g by h)) (IsFormOf n (sum_of g by h)) (Ok f)
  sum_comes f rises e c small = comes_of n (sum_of g by h) f (record {
    form = record { terms = rises; constant = small };
    comes_to = λ a. sums_are f.terms e a ∙ ap (λ x. sum_at f.terms a.numerator +ℤ (x *ℤ a.denominator)) (sym c);
  })

pub once_more : (g h : Meaning) → sum_of g (pos 1) h ≡ (λ a. g a +ℤ h a)
once_more g h = fun_ext (λ a. added (g a) (h a))
  where
    added : (x y : ℤ) → x +ℤ (pos 1 *ℤ y) ≡ x +ℤ y
    added x y = omega (arith, ints)

pub once_less : (g h : Meaning) → sum_of g (negsuc 0) h ≡ (λ a. g a -ℤ h a)
once_less g h = fun_ext (λ a. taken (g a) (h a))
  where
    taken : (x y : ℤ) → x +ℤ (negsuc 0 *ℤ y) ≡ x -ℤ y
    taken x y = omega (arith, ints)
