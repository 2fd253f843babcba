-- Meanings that are the sum of their terms and their constant: their rows, and their terms among more variables.
use Rattle.std.proofs.Common.{◌≡◌, ◌∙◌, ap, ap₂, refl, sym, subst, ◌↔◌, ℕ, zero, suc, arith, ℤ, pos, ◌<◌, ◌≤◌, inl, inr, List, [], ◌∷◌, ◌++◌, true, false, if◌then◌else◌}
use Rattle.std.specs.Prelude.{◌+ℤ◌, ◌*ℤ◌, neg_ℤ}
use Rattle.std.specs.Ordering.{int_eq}
use Rattle.std.proofs.lemmas.Int.{ints}
use Rattle.std.proofs.lemmas.Bool.{cases_eq}
use Rattle.std.proofs.lemmas.List.{append-nil}
use Rattle.sm_kinds.specs.declared.linear.Cmp.{Cmp}
use Rattle.sm_kinds.specs.declared.linear.Cmp.TheVariants.{AtMost, AtLeast, Equal}
use Rattle.sm_kinds.specs.declared.linear.LinRow.{LinRow}
use Rattle.sm_kinds.specs.Linear.{Compares, SatLinear}
use Rattle.sm_kinds.specs.Sums.{sum_at}
use Rattle.std.proofs.Math.IntN.{*ℤ_comm, *ℤ-zero}
use Rattle.sm_kinds.proofs.Multiples.{+ℤ-*ℤ}
use Rattle.sm_forms.specs.Meanings.{Values, Meaning, nowhere, unit, coefficient, constant_of, terms_of}
use Rattle.sm_forms.specs.Forms.{IsFormOf}
use Rattle.sm_forms.specs.declared.form.Form.{Form}
use Rattle.sm_forms.proofs.Coefficients.{unit_other}
use Rattle.sm_forms.proofs.Queries.{constant_is, terms_of_form}
use Rattle.sm_meaning.specs.Demands.{point_of}
use Rattle.sm_flattening.specs.Flattening.{row_of}
use Rattle.sm_flattening.specs.Regularity.{IsAffine}

-- ---- from forms

-- a meaning that has a form is affine: the form has its terms and its constant
pub form_affine : (n : ℕ) (g : Meaning) (f : Form) → IsFormOf n g f → IsAffine n g
form_affine n g f h = record {
  comes_to = λ a. h.comes_to a
      ∙ ap₂ (λ (ts : List (ℕ × ℤ)) (k : ℤ). sum_at ts a.numerator +ℤ (k *ℤ a.denominator)) (terms_of_form n g f h) (sym (constant_is n g f h));
}

pub row_numbers : (n : ℕ) (c : Cmp) (g : Meaning) (f : Form) → IsFormOf n g f → row_of n c g ≡ record { terms = f.terms; cmp = c; bound = neg_ℤ f.constant }
row_numbers n c g f h = ap₂ numbers (sym (terms_of_form n g f h)) (constant_is n g f h)
  where
    numbers : List (ℕ × ℤ) → ℤ → LinRow
    numbers ts k = record { terms = ts; cmp = c; bound = neg_ℤ k }

-- ---- rows

neg_ℤ-*ℤ : (k d : ℤ) → neg_ℤ k *ℤ d ≡ neg_ℤ (k *ℤ d)
neg_ℤ-*ℤ k d =
    let gone : neg_ℤ k +ℤ k ≡ pos 0 = omega (arith, ints) in
    let both : neg_ℤ k *ℤ d +ℤ k *ℤ d ≡ pos 0 = sym (+ℤ-*ℤ (neg_ℤ k) k d) ∙ ap (λ (x : ℤ). x *ℤ d) gone ∙ *ℤ_comm (pos 0) d ∙ *ℤ-zero d in
    opposite (neg_ℤ k *ℤ d) (k *ℤ d) both
  where
    opposite : (x y : ℤ) → x +ℤ y ≡ pos 0 → x ≡ neg_ℤ y
    opposite x y e = omega (arith, ints)

-- what is the sum and a constant compares with 0 as the sum does with that constant, negated
compares_moved : (c : Cmp) (sum k v : ℤ) → v ≡ sum +ℤ k → Compares c sum (neg_ℤ k) ↔ Compares c v (pos 0)
compares_moved AtMost sum k v e = ((λ h. omega (arith, ints)), (λ h. omega (arith, ints)))
compares_moved AtLeast sum k v e = ((λ h. omega (arith, ints)), (λ h. omega (arith, ints)))
compares_moved Equal sum k v e = ((λ h. omega (arith, ints)), (λ h. omega (arith, ints)))

-- a row is satisfied exactly where its meaning compares with 0
pub row_holds : (n : ℕ) (c : Cmp) (g : Meaning) (a : Values) → IsAffine n g → SatLinear (row_of n c g) (point_of a) ↔ Compares c (g a) (pos 0)
row_holds n c g a h =
    let sum = sum_at (terms_of n g) a.numerator in
    let k = constant_of g *ℤ a.denominator in
    let moved = compares_moved c sum k (g a) (h.comes_to a) in
    let negated = neg_ℤ-*ℤ (constant_of g) a.denominator in
    ((λ s. moved.0 (subst (λ (b : ℤ). Compares c sum b) negated s)), (λ s. subst (λ (b : ℤ). Compares c sum b) (sym negated) (moved.1 s)))

-- ---- more variables

sum_at-append : (xs ys : List (ℕ × ℤ)) (p : ℕ → ℤ) → sum_at (xs ++ ys) p ≡ sum_at xs p +ℤ sum_at ys p
sum_at-append [] ys p = omega (arith, ints)
sum_at-append (x ∷ xs) ys p = omega (arith, ints, sum_at-append xs ys p)

-- the term of variable k, unless its coefficient is 0
abbrev last : ℕ → ℤ → List (ℕ × ℤ)
last k c = if int_eq c (pos 0) then [] else (k, c) ∷ []

last_same : (k : ℕ) (c : ℤ) (p q : ℕ → ℤ) → p k ≡ q k → sum_at (last k c) p ≡ sum_at (last k c) q
last_same k c p q e = elim (int_eq c (pos 0)) as (λ b. sum_at (if b then [] else (k, c) ∷ []) p ≡ sum_at (if b then [] else (k, c) ∷ []) q) [
  | true ↦ refl
  | false ↦ ap (λ (z : ℤ). (c *ℤ z) +ℤ pos 0) e
]

-- the sum of the terms rests on the first n variables alone
sum_same : (n : ℕ) (g : Meaning) (p q : ℕ → ℤ) → ((j : ℕ) → j < n → p j ≡ q j) → sum_at (terms_of n g) p ≡ sum_at (terms_of n g) q
sum_same zero g p q e = refl
sum_same (suc n) g p q e =
    sum_at-append (terms_of n g) (last n (coefficient g n)) p
    ∙ ap₂ (λ (x y : ℤ). x +ℤ y) (sum_same n g p q (λ j lt. e j (omega arith))) (last_same n (coefficient g n) p q (e n (omega arith)))
    ∙ sym (sum_at-append (terms_of n g) (last n (coefficient g n)) q)

-- a variable behind the first m doesn't matter to what is affine in these
none_behind : (m k : ℕ) (g : Meaning) → m ≤ k → IsAffine m g → coefficient g k ≡ pos 0
none_behind m k g le h =
    let same = sum_same m g (unit k).numerator nowhere.numerator (λ j lt. unit_other k j (λ e. omega arith)) in
    omega (arith, ints, h.comes_to (unit k), h.comes_to nowhere, same)

pub more_terms : (m n : ℕ) (g : Meaning) → m ≤ n → IsAffine m g → terms_of n g ≡ terms_of m g
more_terms zero zero g le h = refl
more_terms (suc m) zero g le h = absurd (omega arith)
more_terms m (suc n) g le h = elim (cases_eq m (suc n)) [
  | inl e ↦ ap (λ (i : ℕ). terms_of i g) (sym e)
  | inr ne ↦ (let none = none_behind m n g (omega arith) h in
      ap₂ (λ (xs : List (ℕ × ℤ)) (c : ℤ). xs ++ last n c) (more_terms m n g (omega arith) h) none ∙ append-nil (terms_of m g))
]

pub affine_wider : (m n : ℕ) (g : Meaning) → m ≤ n → IsAffine m g → IsAffine n g
affine_wider m n g le h = record {
  comes_to = λ a. h.comes_to a ∙ ap (λ (ts : List (ℕ × ℤ)). sum_at ts a.numerator +ℤ (constant_of g *ℤ a.denominator)) (sym (more_terms m n g le h));
}
