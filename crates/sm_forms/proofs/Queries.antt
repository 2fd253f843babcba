-- What is asked of a form is answered by its terms.
use Rattle.std.proofs.Common.{◌≡◌, ◌≢◌, ◌∙◌, ap, ap₂, sym, refl, subst, ℕ, zero, suc, arith, ℤ, pos, ◌<◌, ◌≤◌, ◌+◌, ◌==◌, ◌⊎◌, ◌↔◌, inl, inr, List, [], ◌∷◌, ◌++◌, length, drop, get_or, Bool, true, false, Option, Some, None, if◌then◌else◌}
use Rattle.std.specs.Prelude.{◌&&◌, unsigned_abs, IsTrue}
use Rattle.std.specs.Ordering.{int_eq}
use Rattle.std.proofs.lemmas.Bool.{cases_eq, and_parts}
use Rattle.std.proofs.lemmas.Grind.{common_steps}
use Rattle.std.proofs.Math.Seq.{drop-length}
use Rattle.sm_forms.specs.Meanings.{Meaning, coefficient, constant_of, first, first_below, above, coefficient_above, is_constant, is_only, variable_of, terms_of}
use Rattle.sm_forms.specs.Forms.{Rises, IsFormOf}
use Rattle.sm_forms.specs.declared.form.Form.{Form}
use Rattle.sm_forms.proofs.Coefficients.{coefficient_in, here, there, none_before, none_below, first_at, first_same}
use Rattle.sm_forms.proofs.Merges.{no_term, drop_split}
use Rattle.sm_forms.proofs.Values.{coefficients, constants}

pub coefficients_of : (n : ℕ) (g : Meaning) (f : Form) → IsFormOf n g f → (i : ℕ) → coefficient g i ≡ coefficient_in f.terms i
coefficients_of n g f h = coefficients n g f.terms f.constant h.form.terms h.comes_to

pub constant_is : (n : ℕ) (g : Meaning) (f : Form) → IsFormOf n g f → constant_of g ≡ f.constant
constant_is n g f h = constants n g f.terms f.constant h.form.terms h.comes_to

-- ---- whether it is constant

pub int_eq-same : (z : ℤ) → int_eq z z ≡ true
int_eq-same z = grind (arith, common_steps)

int_eq-other : (y z : ℤ) → y ≢ z → int_eq y z ≡ false
int_eq-other y z h = grind (arith, common_steps)

pub int_eq-is : (y z : ℤ) → int_eq y z ≡ true → y ≡ z
int_eq-is y z h = grind (arith, common_steps)

and_false : (b : Bool) → (b && false) ≡ false
and_false true = refl
and_false false = refl

constant_where : (n : ℕ) (g : Meaning) → ((i : ℕ) → i < n → coefficient g i ≡ pos 0) → is_constant n g ≡ true
constant_where zero g h = refl
constant_where (suc n) g h = let c = h n (omega arith) in rw (constant_where n g (λ i lt. h i (omega arith)), c) refl

not_constant : (n k : ℕ) (g : Meaning) → k < n → coefficient g k ≢ pos 0 → is_constant n g ≡ false
not_constant zero k g lt h = absurd (omega arith)
not_constant (suc n) k g lt h = elim (cases_eq k n) [
  | inl e ↦ (let z = int_eq-other (coefficient g n) (pos 0) (rw e at h) in rw z (and_false (is_constant n g)))
  | inr ne ↦ (let z = not_constant n k g (omega arith) h in rw z refl)
]

pub constancy : (n : ℕ) (g : Meaning) (ts : List (ℕ × ℤ)) (b : Bool) → Rises n 0 ts → ((i : ℕ) → coefficient g i ≡ coefficient_in ts i) → IsTrue b ↔ (ts ≡ []) → b ≡ is_constant n g
constancy n g [] true h is e = sym (constant_where n g (λ i lt. is i))
constancy n g [] false h is e = absurd (let q : false ≡ true = e.1 refl in cc)
constancy n g (t ∷ ts) true h is e = absurd (let q : t ∷ ts ≡ [] = e.0 refl in cc)
constancy n g (t ∷ ts) false h is e = sym (not_constant n t.0 g h.0.below (subst (λ z. z ≢ pos 0) (sym (is t.0 ∙ here t ts t.0 refl)) h.0.nonzero))

-- ---- the first of the coefficients that is above a limit

abbrev pub first_in : (ℤ → Option ℕ) → List (ℕ × ℤ) → Option ℕ
first_in φ [] = None
first_in φ (t ∷ ts) = first (φ t.1) (first_in φ ts)

pub first_none : (a b : Option ℕ) → first a b ≡ None → (a ≡ None) × (b ≡ None)
first_none (Some y) b h = absurd (cc)
first_none None b h = (refl, h)

first_some : (a b : Option ℕ) (x : ℕ) → first a b ≡ Some x → (a ≡ Some x) ⊎ ((a ≡ None) × (b ≡ Some x))
first_some (Some y) b x h = inl h
first_some None b x h = inr (refl, h)

module _ (φ : ℤ → Option ℕ) (passes : φ (pos 0) ≡ None) where
  none_in : (ts : List (ℕ × ℤ)) → first_in φ ts ≡ None → (i : ℕ) → φ (coefficient_in ts i) ≡ None
  none_in [] h i = passes
  none_in (t ∷ ts) h i = let p = first_none (φ t.1) (first_in φ ts) h in elim (cases_eq t.0 i) [
    | inl e ↦ ap φ (here t ts i e) ∙ p.0
    | inr ne ↦ ap φ (there t ts i ne) ∙ none_in ts p.1 i
  ]

  -- where the first answer stands
  record StandsAt (n from : ℕ) (ts : List (ℕ × ℤ)) (x : ℕ) : Type 0 where
    k : ℕ
    at_least : from ≤ k
    below : k < n
    is : φ (coefficient_in ts k) ≡ Some x
    none : (i : ℕ) → i < k → φ (coefficient_in ts i) ≡ None

  -- by induction: it stands at the first term, or among the rest, whose variables come later
  some_in : (n from : ℕ) (ts : List (ℕ × ℤ)) (x : ℕ) → Rises n from ts → first_in φ ts ≡ Some x → StandsAt n from ts x
  some_in n from [] x a h = absurd (cc)
  some_in n from (t ∷ ts) x a h = elim (first_some (φ t.1) (first_in φ ts) x h) [
    | inl p ↦ record {
      k = t.0;
      at_least = a.0.at_least;
      below = a.0.below;
      is = ap φ (here t ts t.0 refl) ∙ p;
      none = λ i lt. ap φ (there t ts i (λ q. absurd (omega arith)) ∙ none_before n (t.0 + 1) i ts (omega arith) a.1) ∙ passes;
    }
    | inr p ↦ (let r = some_in n (t.0 + 1) ts x a.1 p.1 in record {
      k = r.k;
      at_least = omega (arith, r.at_least, a.0.at_least);
      below = r.below;
      is = ap φ (there t ts r.k (λ q. absurd (omega (arith, r.at_least)))) ∙ r.is;
      none = λ i lt. elim (cases_eq t.0 i) [
        | inl e ↦ ap φ (here t ts i e) ∙ p.0
        | inr ne ↦ ap φ (there t ts i ne) ∙ r.none i lt
      ];
    })
  ]

  -- the search through terms that rise is the search through all coefficients
  pub first_terms : (n : ℕ) (ts : List (ℕ × ℤ)) → Rises n 0 ts → first_below n (λ i. φ (coefficient_in ts i)) ≡ first_in φ ts
  first_terms n ts a = by_cases (first_in φ ts) refl
    where
      by_cases : (o : Option ℕ) → first_in φ ts ≡ o → first_below n (λ i. φ (coefficient_in ts i)) ≡ first_in φ ts
      by_cases None e = none_below n (λ i. φ (coefficient_in ts i)) (λ i lt. none_in ts e i) ∙ sym e
      by_cases (Some x) e = let r = some_in n 0 ts x a e in
          first_at n r.k (λ i. φ (coefficient_in ts i)) x (none_below r.k (λ i. φ (coefficient_in ts i)) r.none) r.is r.below ∙ sym e

pub above_first : (limit n : ℕ) (g : Meaning) (f : Form) → IsFormOf n g f → coefficient_above limit n g ≡ first_in (above limit) f.terms
above_first limit n g f h =
    first_same n (λ i. above limit (coefficient g i)) (λ i. above limit (coefficient_in f.terms i)) (λ i lt. ap (above limit) (coefficients_of n g f h i))
    ∙ first_terms (above limit) (zero_passes limit) n f.terms h.form.terms
  where
    zero_passes : (limit : ℕ) → above limit (pos 0) ≡ None
    zero_passes limit = grind (arith, common_steps)

pub above_is : (limit x : ℕ) (z : ℤ) → x ≡ unsigned_abs z → limit < x → above limit z ≡ Some x
above_is limit x z is lt = grind (arith, common_steps)

pub found_first : (limit n i x : ℕ) (g : Meaning) (f : Form) (ts : List (ℕ × ℤ)) → IsFormOf n g f → ts ≡ f.terms → i < length ts
    → first_in (above limit) (drop i ts) ≡ first_in (above limit) ts → above limit (get_or ts i no_term).1 ≡ Some x → Some x ≡ coefficient_above limit n g
found_first limit n i x g f ts h e lt kept is =
    let s = ap (first_in (above limit)) (drop_split ts i lt) in
    sym (above_first limit n g f h ∙ ap (first_in (above limit)) (sym e) ∙ sym kept ∙ s ∙ ap (λ o. first o (first_in (above limit) (drop (i + 1) ts))) is)

pub none_found : (limit n i : ℕ) (g : Meaning) (f : Form) (ts : List (ℕ × ℤ)) → IsFormOf n g f → ts ≡ f.terms → i ≡ length ts
    → first_in (above limit) (drop i ts) ≡ first_in (above limit) ts → None ≡ coefficient_above limit n g
none_found limit n i g f ts h e end kept =
    sym (above_first limit n g f h ∙ ap (first_in (above limit)) (sym e) ∙ sym kept ∙ ap (λ m. first_in (above limit) (drop m ts)) end ∙ ap (first_in (above limit)) (drop-length ts))

-- ---- the single variable that it is

is_only_where : (n i : ℕ) (g : Meaning) → ((k : ℕ) → k < n → coefficient g k ≡ (if k == i then pos 1 else pos 0)) → is_only n i g ≡ true
is_only_where zero i g h = refl
is_only_where (suc n) i g h =
    let last : int_eq (coefficient g n) (if n == i then pos 1 else pos 0) ≡ true = rw (h n (omega arith)) (int_eq-same (if n == i then pos 1 else pos 0)) in
    rw (is_only_where n i g (λ k lt. h k (omega arith)), last) refl

is_only_at : (n i k : ℕ) (g : Meaning) → is_only n i g ≡ true → k < n → coefficient g k ≡ (if k == i then pos 1 else pos 0)
is_only_at zero i k g h lt = absurd (omega arith)
is_only_at (suc n) i k g h lt = let p = and_parts (is_only n i g) (int_eq (coefficient g n) (if n == i then pos 1 else pos 0)) h in elim (cases_eq k n) [
  | inl e ↦ rw e (int_eq-is (coefficient g n) (if n == i then pos 1 else pos 0) p.1)
  | inr ne ↦ is_only_at n i k g p.0 (omega arith)
]

one_same : (k i : ℕ) → k ≡ i → (if k == i then pos 1 else pos 0) ≡ pos 1
one_same k i e = grind (arith, common_steps)

one_other : (k i : ℕ) → k ≢ i → (if k == i then pos 1 else pos 0) ≡ pos 0
one_other k i e = grind (arith, common_steps)

-- terms of which one variable has the coefficient 1 and each other 0
only_term : (n i : ℕ) (ts : List (ℕ × ℤ)) → i < n → Rises n 0 ts → ((k : ℕ) → k < n → coefficient_in ts k ≡ (if k == i then pos 1 else pos 0)) → ts ≡ (i, pos 1) ∷ []
only_term n i [] lt h is = absurd (let q : pos 0 ≡ pos 1 = is i lt ∙ one_same i i refl in cc)
only_term n i (t ∷ ts) lt h is = by_case (cases_eq t.0 i)
  where
    at_i : t.0 ≡ i → t.1 ≡ pos 1
    at_i e = sym (here t ts i e) ∙ is i lt ∙ one_same i i refl

    no_more : t.0 ≡ i → (us : List (ℕ × ℤ)) → Rises n (t.0 + 1) us → us ≡ ts → us ≡ []
    no_more e [] a q = refl
    no_more e (u ∷ us) a q = absurd (a.0.nonzero (sym (here u us u.0 refl) ∙ ap (λ xs. coefficient_in xs u.0) q
        ∙ sym (there t ts u.0 (λ r. omega (arith, a.0.at_least))) ∙ is u.0 a.0.below ∙ one_other u.0 i (λ r. omega (arith, a.0.at_least))))

    by_case : (t.0 ≡ i) ⊎ (t.0 ≢ i) → t ∷ ts ≡ (i, pos 1) ∷ []
    by_case (inl e) = ap₂ (λ (x : ℕ × ℤ) xs. x ∷ xs) (ap₂ (λ (v : ℕ) (c : ℤ). (v, c)) e (at_i e)) (no_more e ts h.1 refl)
    by_case (inr ne) = absurd (h.0.nonzero (sym (here t ts t.0 refl) ∙ is t.0 h.0.below ∙ one_other t.0 i ne))

one_term : (v k : ℕ) → coefficient_in ((v, pos 1) ∷ []) k ≡ (if k == v then pos 1 else pos 0)
one_term v k = elim (cases_eq v k) [
  | inl e ↦ here (v, pos 1) [] k e ∙ sym (one_same k v (sym e))
  | inr ne ↦ there (v, pos 1) [] k ne ∙ sym (one_other k v (λ e. ne (sym e)))
]

-- Variable v is the single one of a form with the term (v, 1) alone and the constant 0: of any other variable v has the
-- coefficient 1 where it should have 0.
pub variable_some : (n v : ℕ) (g : Meaning) (f : Form) → IsFormOf n g f → f.terms ≡ (v, pos 1) ∷ [] → f.constant ≡ pos 0 → variable_of n g ≡ Some v
variable_some n v g f h e k = first_at n v test v (none_below v test before) at below
  where
    test : ℕ → Option ℕ
    test = λ i. if is_only n i g && int_eq (constant_of g) (pos 0) then Some i else None

    rises : Rises n 0 ((v, pos 1) ∷ [])
    rises = rw e at h.form.terms

    below : v < n
    below = rises.0.below

    coefficients_are : (j : ℕ) → coefficient g j ≡ (if j == v then pos 1 else pos 0)
    coefficients_are j = coefficients_of n g f h j ∙ ap (λ xs. coefficient_in xs j) e ∙ one_term v j

    constant_zero : int_eq (constant_of g) (pos 0) ≡ true
    constant_zero = let c = constant_is n g f h ∙ k in rw c refl

    at : test v ≡ Some v
    at = rw (is_only_where n v g (λ j lt. coefficients_are j), constant_zero) refl

    wrong : (i : ℕ) → i < v → is_only n i g ≢ true
    wrong i lt b = absurd (let q : pos 1 ≡ pos 0 = sym (one_same v v refl) ∙ sym (coefficients_are v) ∙ is_only_at n i v g b below ∙ one_other v i (λ r. omega arith) in cc)

    before : (i : ℕ) → i < v → test i ≡ None
    before i lt = by_bool (is_only n i g) refl
      where
        by_bool : (b : Bool) → is_only n i g ≡ b → test i ≡ None
        by_bool true q = absurd (wrong i lt q)
        by_bool false q = rw q refl

pub variable_none : (n : ℕ) (g : Meaning) (f : Form) → IsFormOf n g f → ((v : ℕ) → f.terms ≡ (v, pos 1) ∷ [] → f.constant ≡ pos 0 → ⊥) → variable_of n g ≡ None
variable_none n g f h other = none_below n test each
  where
    test : ℕ → Option ℕ
    test = λ i. if is_only n i g && int_eq (constant_of g) (pos 0) then Some i else None

    each : (i : ℕ) → i < n → test i ≡ None
    each i lt = by_bool (is_only n i g && int_eq (constant_of g) (pos 0)) refl
      where
        by_bool : (b : Bool) → (is_only n i g && int_eq (constant_of g) (pos 0)) ≡ b → test i ≡ None
        by_bool false q = rw q refl
        by_bool true q = let p = and_parts (is_only n i g) (int_eq (constant_of g) (pos 0)) q in
            absurd (other i (only_term n i f.terms lt h.form.terms (λ k less. sym (coefficients_of n g f h k) ∙ is_only_at n i k g p.0 less))
            (sym (constant_is n g f h) ∙ int_eq-is (constant_of g) (pos 0) p.1))

-- ---- the terms

-- the term of variable n with this coefficient, unless it is 0
abbrev last : ℕ → ℤ → List (ℕ × ℤ)
last n c = if int_eq c (pos 0) then [] else (n, c) ∷ []

-- terms of variables up to n, as those below n and the one of n
record Grows (n from : ℕ) (ts : List (ℕ × ℤ)) : Type 0 where
  below : List (ℕ × ℤ)
  rises : Rises n from below
  is : ts ≡ below ++ last n (coefficient_in ts n)
  same : (k : ℕ) → k < n → coefficient_in below k ≡ coefficient_in ts k

-- Induction on the terms. Behind a term of n nothing follows, and a term before n stands in front of what is below n.
grows : (n from : ℕ) (ts : List (ℕ × ℤ)) → Rises (suc n) from ts → Grows n from ts
grows n from [] h = record { below = []; rises = tt; is = refl; same = λ k lt. refl }
grows n from (t ∷ ts) h = by_case (cases_eq t.0 n) (grows n (t.0 + 1) ts h.1)
  where
    no_more : (us : List (ℕ × ℤ)) → Rises (suc n) (t.0 + 1) us → t.0 ≡ n → us ≡ []
    no_more [] a e = refl
    no_more (u ∷ us) a e = absurd (omega (arith, a.0.at_least, a.0.below))

    by_case : (t.0 ≡ n) ⊎ (t.0 ≢ n) → Grows n (t.0 + 1) ts → Grows n from (t ∷ ts)
    by_case (inl e) r =
        let c : coefficient_in (t ∷ ts) n ≡ t.1 = here t ts n e in
        record {
          below = [];
          rises = tt;
          is = rw (c, int_eq-other t.1 (pos 0) h.0.nonzero) (ap₂ (λ (x : ℕ × ℤ) xs. x ∷ xs) (ap (λ (v : ℕ). (v, t.1)) e) (no_more ts h.1 e));
          same = λ k lt. sym (there t ts k (λ r. omega arith) ∙ none_before (suc n) (t.0 + 1) k ts (omega arith) h.1);
        }
    by_case (inr ne) r =
        record {
          below = t ∷ r.below;
          rises = (record { at_least = h.0.at_least; below = omega (arith, h.0.below); nonzero = h.0.nonzero; small = h.0.small }, r.rises);
          is = rw (there t ts n ne) (ap (λ xs. t ∷ xs) r.is);
          same = λ k lt. elim (cases_eq t.0 k) [
            | inl e ↦ here t r.below k e ∙ sym (here t ts k e)
            | inr other ↦ there t r.below k other ∙ r.same k lt ∙ sym (there t ts k other)
          ];
        }

terms_are : (n : ℕ) (g : Meaning) (ts : List (ℕ × ℤ)) → Rises n 0 ts → ((k : ℕ) → k < n → coefficient g k ≡ coefficient_in ts k) → terms_of n g ≡ ts
terms_are zero g [] h is = refl
terms_are zero g (t ∷ ts) h is = absurd (omega (arith, h.0.below))
terms_are (suc n) g ts h is =
    let r = grows n 0 ts h in
    let rest = terms_are n g r.below r.rises (λ k lt. is k (omega arith) ∙ sym (r.same k lt)) in
    let c = is n (omega arith) in
    rw (rest, c) (sym r.is)

pub terms_of_form : (n : ℕ) (g : Meaning) (f : Form) → IsFormOf n g f → f.terms ≡ terms_of n g
terms_of_form n g f h = sym (terms_are n g f.terms h.form.terms (λ k lt. coefficients_of n g f h k))

pub one_term_of : (ts : List (ℕ × ℤ)) → length ts ≡ 1 → (get_or ts 0 no_term).1 ≡ pos 1 → ts ≡ ((get_or ts 0 no_term).0, pos 1) ∷ []
one_term_of [] e h = absurd (omega arith)
one_term_of (t ∷ u ∷ ts) e h = absurd (omega arith)
one_term_of (t ∷ []) e h = ap (λ (c : ℤ). (t.0, c) ∷ []) h
