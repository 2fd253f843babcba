-- Meanings whose numbers are tried.
use Rattle.std.proofs.Common.{◌≡◌, ◌∙◌, ap, ap₂, sym, ℕ, arith, ℤ, pos, negsuc, ◌<◌, ◌⊎◌, [], Bool, true, false, option_map, inl, inr}
use Rattle.std.specs.Prelude.{◌-ℤ◌, ◌*ℤ◌, neg_ℤ, unsigned_abs, not}
use Rattle.std.proofs.lemmas.Int.{ints}
use Rattle.std.proofs.Math.Path.{fun_ext}
use Rattle.sm_syntax.specs.declared.place.Place.{Place}
use Rattle.sm_data.specs.declared.refusal.Counted.TheVariants as counted
use Rattle.sm_forms.specs.Meanings.{Values, Meaning, above, first, greatest_value, large_value, is_constant, constant_of}
use Rattle.sm_forms.specs.Forms.{IsFormOf}
use Rattle.sm_forms.specs.declared.form.Form.{Form}
use Rattle.sm_forms.specs.declared.refusal.FormRefusal.TheVariants.{TooLarge}
use Rattle.sm_forms.proofs.Coefficients.{none_above}
use Rattle.sm_forms.proofs.Values.{comes_of}
use Rattle.sm_forms.proofs.Queries.{above_is}
use Rattle.sm_forms.proofs.Products.{product_left, product_right}
use Rattle.sm_forms.proofs.Uniqueness.{constant_value}
use Rattle.sm_meaning.specs.declared.refusal.Wrong.TheVariants.{Whole}
use Rattle.sm_meaning.specs.Refusals.{over, wrong_if}
use Rattle.sm_meaning.specs.Trials.{reached, tried, IsStopped}
use Rattle.sm_meaning.specs.Scopes.{Scope, count_of}
use Rattle.sm_meaning.specs.Worths.{whole, negated_if, times_of}
use Rattle.sm_meaning.specs.ExpressionTrials.{value_tried, whole_tried}
use Rattle.sm_expressions.specs.Values.{refusal_for}

-- ---- numbers

pub whole_large : (n : ℕ) (z : ℤ) → large_value n (whole z) ≡ above greatest_value z
whole_large n z = ap₂ first (none_above n (whole z) [] tt (λ i. none z)) (ap (above greatest_value) (once z))
  where
    none : (z : ℤ) → (z *ℤ pos 1) -ℤ (z *ℤ pos 1) ≡ pos 0
    none z = omega (arith, ints)

    once : (z : ℤ) → z *ℤ pos 1 ≡ z
    once z = omega (arith, ints)

pub number_stops : (s : Scope) (z : ℤ) (x count : ℕ) → x ≡ unsigned_abs z → greatest_value < x → IsStopped (refusal_for (TooLarge x)) (value_tried s (whole z) count)
number_stops s z x count is lt = ap (λ o. tried (option_map (over counted.Value greatest_value) o) count) (whole_large (count_of s) z ∙ above_is greatest_value x z is lt)

-- what a form comes to has no number that is too large
pub form_goes : (s : Scope) (g : Meaning) (f : Form) → IsFormOf (count_of s) g f → (count : ℕ) → value_tried s g count ≡ reached count
form_goes s g f h count = ap (λ o. tried (option_map (over counted.Value greatest_value) o) count) (comes_of (count_of s) g f h).0

-- ---- multiples

pub negated_is : (b : Bool) (g : Meaning) → b ≡ true → (λ a. negsuc 0 *ℤ g a) ≡ negated_if b g
negated_is b g is = fun_ext (λ a. minus (g a)) ∙ ap (λ t. negated_if t g) (sym is)
  where
    minus : (z : ℤ) → negsuc 0 *ℤ z ≡ neg_ℤ z
    minus z = omega (arith, ints)

pub times_left : (g h : Meaning) (k by : ℤ) → ((a : Values) → g a ≡ k *ℤ a.denominator) → by ≡ k → (λ a. by *ℤ h a) ≡ times_of g h
times_left g h k by is same = let M : ℤ → Meaning = λ j a. j *ℤ h a in ap M same ∙ sym (product_left g h k is)

pub times_right : (n : ℕ) (g h : Meaning) (f : Form) (by : ℤ) (t : Bool) → IsFormOf n h f → t ≡ is_constant n g → t ≡ false → (is_constant n g ≡ true) ⊎ (is_constant n h ≡ true) → by ≡ constant_of h
    → (λ a. by *ℤ g a) ≡ times_of g h
times_right n g h f by t form is isnt (inl e) same = absurd (differ (sym isnt ∙ is ∙ e))
  where
    differ : false ≡ true → ⊥
    differ e = cc
times_right n g h f by t form is isnt (inr e) same = (let M : ℤ → Meaning = λ j a. j *ℤ g a in ap M same) ∙ sym (product_right g h (constant_of h) (constant_value n h f form e))

-- ---- whole numbers

pub whole_goes : (s : Scope) (p : Place) (g : Meaning) (t : Bool) (count : ℕ) → t ≡ is_constant (count_of s) g → t ≡ true → whole_tried s p g count ≡ reached count
whole_goes s p g t count is e = ap (λ b. tried (wrong_if (not b) p Whole) count) (sym is ∙ e)
