-- The terms of a meaning: of variables below n, in order, with coefficients other than 0.
use Rattle.std.proofs.Common.{◌≡◌, ◌≢◌, sym, refl, subst, subst₂, ℕ, zero, suc, arith, ℤ, pos, ◌<◌, ◌≤◌, ◌+◌, inl, inr, List, [], ◌∷◌, ◌++◌, length, Bool, true, false, if◌then◌else◌, unsigned_abs, None}
use Rattle.std.specs.Prelude.{All}
use Rattle.std.specs.Ordering.{int_eq}
use Rattle.std.proofs.lemmas.Bool.{cases_eq}
use Rattle.std.proofs.lemmas.Grind.{common_steps}
use Rattle.std.proofs.lemmas.List.{length-append, append-nil, get_or_append_left, get_or_push}
use Rattle.std.proofs.lemmas.List.Elements.{All-nil, All-cons, All-append}
use Rattle.sm_kinds.specs.declared.var.Var.{Var}
use Rattle.sm_kinds.specs.Limits.{IsSmall, greatest_number}
use Rattle.sm_kinds.specs.Sums.{VariablesRise, IsSum}
use Rattle.sm_forms.specs.Meanings.{Meaning, coefficient, above, coefficient_above, terms_of}
use Rattle.sm_forms.proofs.Queries.{first_none}
use Rattle.sm_flattening.proofs.Reached.{not_above}

-- what holds of each coefficient that isn't 0, beside its variable
each_term : (P : ℕ × ℤ → Type 0) (n : ℕ) (g : Meaning) → ((i : ℕ) → i < n → coefficient g i ≢ pos 0 → P (i, coefficient g i)) → All P (terms_of n g)
each_term P zero g f = All-nil P
each_term P (suc n) g f =
    All-append P (terms_of n g) (if int_eq (coefficient g n) (pos 0) then [] else (n, coefficient g n) ∷ [])
    (each_term P n g (λ i lt. f i (omega arith))) (last (int_eq (coefficient g n) (pos 0)) refl)
  where
    last : (none : Bool) → int_eq (coefficient g n) (pos 0) ≡ none → All P (if none then [] else (n, coefficient g n) ∷ [])
    last true e = All-nil P
    last false e = All-cons P (n, coefficient g n) [] (f n (omega arith) (λ z. grind (arith, common_steps))) (All-nil P)

pub terms_below : (n : ℕ) (g : Meaning) → All (λ t. t.0 < n) (terms_of n g)
terms_below n g = each_term (λ t. t.0 < n) n g (λ i lt other. lt)

pub terms_few : (n : ℕ) (g : Meaning) → length (terms_of n g) ≤ n
terms_few zero g = omega arith
terms_few (suc n) g =
    let last : List (ℕ × ℤ) = if int_eq (coefficient g n) (pos 0) then [] else (n, coefficient g n) ∷ [] in
    omega (arith, terms_few n g, length-append (terms_of n g) last, one_or_none (int_eq (coefficient g n) (pos 0)) (n, coefficient g n))
  where
    one_or_none : (none : Bool) (t : ℕ × ℤ) → length (if none then [] else t ∷ []) ≤ 1
    one_or_none true t = omega arith
    one_or_none false t = omega arith

-- ---- their order

-- a term of a later variable stands last
rise_push : (ts : List (ℕ × ℤ)) (t : ℕ × ℤ) → VariablesRise ts → All (λ u. u.0 < t.0) ts → VariablesRise (ts ++ t ∷ [])
rise_push ts t rise below k lt = elim (cases_eq (k + 1) (length ts)) [
  | inl e ↦ subst₂ (λ (u v : ℕ × ℤ). u.0 < v.0)
      (sym (get_or_append_left ts (t ∷ []) (0, pos 0) k (omega arith))) (sym (get_or_push ts t (0, pos 0) (k + 1) (sym e))) (below k (0, pos 0) (omega arith))
  | inr ne ↦ (let inside : k + 1 < length ts = omega (arith, length-append ts (t ∷ [])) in
      subst₂ (λ (u v : ℕ × ℤ). u.0 < v.0)
      (sym (get_or_append_left ts (t ∷ []) (0, pos 0) k (omega arith))) (sym (get_or_append_left ts (t ∷ []) (0, pos 0) (k + 1) inside)) (rise k inside))
]

terms_rise : (n : ℕ) (g : Meaning) → VariablesRise (terms_of n g)
terms_rise zero g = λ k lt. absurd (omega arith)
terms_rise (suc n) g = last (int_eq (coefficient g n) (pos 0)) (terms_rise n g)
  where
    last : (none : Bool) → VariablesRise (terms_of n g) → VariablesRise (terms_of n g ++ (if none then [] else (n, coefficient g n) ∷ []))
    last true rise = subst VariablesRise (sym (append-nil (terms_of n g))) rise
    last false rise = rise_push (terms_of n g) (n, coefficient g n) rise (terms_below n g)

-- ---- coefficients within the limit

each_within : (limit n : ℕ) (g : Meaning) → coefficient_above limit n g ≡ None → (k : ℕ) → k < n → unsigned_abs (coefficient g k) ≤ limit
each_within limit zero g h k lt = absurd (omega arith)
each_within limit (suc n) g h k lt =
    let parts = first_none (coefficient_above limit n g) (above limit (coefficient g n)) h in
    elim (cases_eq k n) [
      | inl e ↦ rw e (not_above limit (coefficient g n) parts.1)
      | inr ne ↦ each_within limit n g parts.0 k (omega arith)
    ]

pub terms_sum : (vars : List Var) (g : Meaning) → coefficient_above greatest_number (length vars) g ≡ None → IsSum vars (terms_of (length vars) g)
terms_sum vars g h = let n = length vars in record {
  known = terms_below n g;
  rising = terms_rise n g;
  nonzero = each_term (λ t. t.1 ≢ pos 0) n g (λ i lt other. other);
  small = each_term (λ t. IsSmall t.1) n g (λ i lt other. each_within greatest_number n g h i lt);
}
