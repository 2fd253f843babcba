-- A meaning has one form at most, and the form says what is asked of the meaning.
use Rattle.std.proofs.Common.{◌≡◌, ◌∙◌, ap, ap₂, sym, refl, ℕ, arith, ℤ, pos, ◌<◌, ◌≤◌, ◌⊎◌, inl, inr, List, [], ◌∷◌, Bool, true, false, Some, None, length, get_or}
use Rattle.std.specs.Prelude.{◌+ℤ◌, ◌*ℤ◌, unwrap_or}
use Rattle.std.specs.Ordering.{int_eq}
use Rattle.std.proofs.lemmas.Bool.{false≢true}
use Rattle.std.proofs.lemmas.Int.{ints}
use Rattle.sm_kinds.specs.Sums.{sum_at}
use Rattle.sm_forms.specs.Meanings.{Values, Meaning, constant_of, is_constant, variable_of}
use Rattle.sm_forms.specs.Forms.{Rises, IsFormOf}
use Rattle.sm_forms.specs.declared.form.Form.{Form}
use Rattle.sm_forms.proofs.Merges.{no_term, wider}
use Rattle.sm_forms.proofs.Queries.{coefficients_of, constant_is, constancy, variable_some, variable_none, terms_of_form, int_eq-is, int_eq-same}

pub one_form : (n : ℕ) (g : Meaning) (e f : Form) → IsFormOf n g e → IsFormOf n g f → e ≡ f
one_form n g e f h k = ap₂ (λ (ts : List (ℕ × ℤ)) (c : ℤ). record { terms = ts; constant = c })
    (terms_of_form n g e h ∙ sym (terms_of_form n g f k)) (sym (constant_is n g e h) ∙ constant_is n g f k)

pub wider_form : (m n : ℕ) (g : Meaning) (f : Form) → m ≤ n → IsFormOf m g f → IsFormOf n g f
wider_form m n g f le h = record { form = record { terms = wider m n 0 f.terms le h.form.terms; constant = h.form.constant }; comes_to = h.comes_to }

pub constant_value : (n : ℕ) (g : Meaning) (f : Form) → IsFormOf n g f → is_constant n g ≡ true → (a : Values) → g a ≡ constant_of g *ℤ a.denominator
constant_value n g f h is a = by_terms f.terms refl
  where
    alone : (c d : ℤ) → pos 0 +ℤ (c *ℤ d) ≡ c *ℤ d
    alone c d = omega (arith, ints)

    by_terms : (ts : List (ℕ × ℤ)) → f.terms ≡ ts → g a ≡ constant_of g *ℤ a.denominator
    by_terms [] e = h.comes_to a ∙ ap (λ ts. sum_at ts a.numerator +ℤ (f.constant *ℤ a.denominator)) e
        ∙ alone f.constant a.denominator ∙ ap (λ c. c *ℤ a.denominator) (sym (constant_is n g f h))
    by_terms (t ∷ ts) e = absurd (let q = no_terms e in cc)
      where
        no_terms : f.terms ≡ t ∷ ts → false ≡ true
        no_terms q = constancy n g f.terms false h.form.terms (coefficients_of n g f h) ((λ (z : false ≡ true). absurd (cc)), (λ z. absurd (let w = sym q ∙ z in cc))) ∙ is

-- whether there is one term, with the coefficient 1, and the constant is 0
OneVariable : List (ℕ × ℤ) → ℤ → Type 0
OneVariable ts k = ((w : ℕ) × (ts ≡ (w, pos 1) ∷ []) × (k ≡ pos 0)) ⊎ ((w : ℕ) → ts ≡ (w, pos 1) ∷ [] → k ≡ pos 0 → ⊥)

one_variable : (ts : List (ℕ × ℤ)) (k : ℤ) → OneVariable ts k
unfolding OneVariable
one_variable [] k = inr (λ w e z. absurd (cc))
one_variable (t ∷ u ∷ ts) k = inr (λ w e z. absurd (let q = ap (λ xs. length xs) e in omega (arith, q)))
one_variable (t ∷ []) k = by_bools (int_eq t.1 (pos 1)) refl (int_eq k (pos 0)) refl
  where
    by_bools : (b : Bool) → int_eq t.1 (pos 1) ≡ b → (c : Bool) → int_eq k (pos 0) ≡ c
        → ((w : ℕ) × (t ∷ [] ≡ (w, pos 1) ∷ []) × (k ≡ pos 0)) ⊎ ((w : ℕ) → t ∷ [] ≡ (w, pos 1) ∷ [] → k ≡ pos 0 → ⊥)
    by_bools true p true q = inl (t.0, ap (λ (c : ℤ). (t.0, c) ∷ []) (int_eq-is t.1 (pos 1) p), int_eq-is k (pos 0) q)
    by_bools true p false q = inr (λ w e z. false≢true (sym q ∙ ap (λ x. int_eq x (pos 0)) z ∙ int_eq-same (pos 0)))
    by_bools false p c q = inr (λ w e z. false≢true (sym p ∙ ap (λ xs. int_eq (get_or xs 0 no_term).1 (pos 1)) e ∙ int_eq-same (pos 1)))

-- the variable is that of the form's only term
pub variable_value : (n v : ℕ) (g : Meaning) (f : Form) → IsFormOf n g f → variable_of n g ≡ Some v → (v < n) × ((a : Values) → g a ≡ a.numerator v)
unfolding OneVariable
variable_value n v g f h is = elim (one_variable f.terms f.constant) [
  | inl o ↦ found o.0 o.1 o.2
  | inr none ↦ absurd (let q : None ≡ Some v = sym (variable_none n g f h none) ∙ is in cc)
]
  where
    alone : (x d : ℤ) → ((pos 1 *ℤ x) +ℤ pos 0) +ℤ (pos 0 *ℤ d) ≡ x
    alone x d = omega (arith, ints)

    found : (w : ℕ) → f.terms ≡ (w, pos 1) ∷ [] → f.constant ≡ pos 0 → (v < n) × ((a : Values) → g a ≡ a.numerator v)
    found w e z =
        let same : w ≡ v = ap (λ o. unwrap_or o 0) (sym (variable_some n w g f h e z) ∙ is) in
        let rises : Rises n 0 ((w, pos 1) ∷ []) = rw e at h.form.terms in
        (rw same at rises.0.below, λ a. h.comes_to a ∙ ap₂ (λ ts c. sum_at ts a.numerator +ℤ (c *ℤ a.denominator)) e z ∙ alone (a.numerator w) a.denominator ∙ ap a.numerator same)
