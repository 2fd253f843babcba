-- What sums with each column once come to, that they stay so, and what their coefficients add up to.
use Rattle.std.proofs.Common.{◌≡◌, ◌∙◌, refl, ap, arith, ℕ, zero, suc, ◌+◌, ◌*◌, ◌<◌, ◌≤◌, Bool, true, false, cond, not, List, [], ◌∷◌, ◌++◌, length, get_or, set, take, drop}
use Rattle.std.specs.Prelude.{ℤ, pos, ◌+ℤ◌, ◌*ℤ◌, unsigned_abs}
use Rattle.std.specs.Ordering.{int_eq}
use Rattle.std.proofs.lemmas.Int.{ints, unsigned_abs-mul}
use Rattle.std.proofs.lemmas.List.{at_drop_more}
use Rattle.std.proofs.Math.IntN.{*ℤ_comm, *ℤ-zero}
use Rattle.sm_kinds.proofs.Multiples.{*ℤ_assoc, +ℤ-*ℤ, *ℤ-+ℤ}
use Rattle.sm_kinds.specs.Points.{Point}
use Rattle.sm_step.specs.declared.row.Col.{Col}
use Rattle.sm_step.specs.declared.row.Col.TheVariants.{Var, Is}
use Rattle.sm_rows.specs.declared.form.ColumnForm.{ColumnForm}
use Rattle.sm_rows.specs.Rows.{column_at, row_sum}
use Rattle.sm_rows.specs.Terms.{same_column, Lacks, IsApart, add_term, add_terms, is_nonzero, without_zeros, weight}
use Rattle.sm_rows.specs.Forms.{form_at, add_form, form_weight}

pub same_is : (c e : Col) → same_column c e ≡ true → c ≡ e
same_is (Var i) (Var j) h = let same : i ≡ j = grind arith in ap (λ (n : ℕ). Var n) same
same_is (Var i) (Is j w) h = absurd (cc)
same_is (Is i v) (Var j) h = absurd (cc)
same_is (Is i v) (Is j w) h =
    let first : i ≡ j = grind (arith, ints) in
    let second : v ≡ w = grind (arith, ints) in
    rw (first, second) refl

-- ---- the value of a sum

pub zero_left : (x : ℤ) → pos 0 *ℤ x ≡ pos 0
zero_left x = *ℤ_comm (pos 0) x ∙ *ℤ-zero x

pub row_sum-add_term : (a : Point) (ts : List (Col × ℤ)) (c : Col) (k : ℤ) → row_sum a (add_term ts c k) ≡ row_sum a ts +ℤ k *ℤ column_at a c
row_sum-add_term a [] c k = omega (arith, ints)
row_sum-add_term a (t ∷ ts) c k = by_test (same_column t.0 c) refl (row_sum-add_term a ts c k)
  where
    by_test : (b : Bool) → same_column t.0 c ≡ b → row_sum a (add_term ts c k) ≡ row_sum a ts +ℤ k *ℤ column_at a c → row_sum a (cond b ((t.0, t.1 +ℤ k) ∷ ts) (t ∷ add_term ts c k)) ≡ row_sum a (t ∷ ts) +ℤ k *ℤ column_at a c
    by_test true e rest =
        let same : column_at a t.0 ≡ column_at a c = ap (column_at a) (same_is t.0 c e) in
        rw (+ℤ-*ℤ t.1 k (column_at a t.0), same) (omega (arith, ints))
    by_test false e rest = omega (arith, ints, rest)

pub row_sum-add_terms : (a : Point) (sum : List (Col × ℤ)) (by : ℤ) (ts : List (Col × ℤ)) → row_sum a (add_terms sum by ts) ≡ row_sum a sum +ℤ by *ℤ row_sum a ts
row_sum-add_terms a sum by [] = rw (*ℤ-zero by) (omega (arith, ints))
row_sum-add_terms a sum by (t ∷ ts) =
    let rest = row_sum-add_terms a (add_term sum t.0 (by *ℤ t.1)) by ts in
    let one = row_sum-add_term a sum t.0 (by *ℤ t.1) in
    rw (*ℤ-+ℤ by (t.1 *ℤ column_at a t.0) (row_sum a ts), ← (*ℤ_assoc by t.1 (column_at a t.0))) (omega (arith, ints, rest, one))

pub row_sum-without_zeros : (a : Point) (ts : List (Col × ℤ)) → row_sum a (without_zeros ts) ≡ row_sum a ts
row_sum-without_zeros a [] = refl
row_sum-without_zeros a (t ∷ ts) = by_test (int_eq t.1 (pos 0)) refl (row_sum-without_zeros a ts)
  where
    by_test : (b : Bool) → int_eq t.1 (pos 0) ≡ b → row_sum a (without_zeros ts) ≡ row_sum a ts → row_sum a (cond (not b) (t ∷ without_zeros ts) (without_zeros ts)) ≡ row_sum a (t ∷ ts)
    by_test true e rest = let zero : t.1 ≡ pos 0 = grind (arith, ints) in rw (zero, zero_left (column_at a t.0)) (omega (arith, ints, rest))
    by_test false e rest = omega (arith, ints, rest)

pub form_at-add_form : (a : Point) (sum : ColumnForm) (by : ℤ) (f : ColumnForm) → form_at a (add_form sum by f) ≡ form_at a sum +ℤ by *ℤ form_at a f
form_at-add_form a sum by f =
    let terms = row_sum-add_terms a sum.terms by f.terms in
    rw (+ℤ-*ℤ sum.constant (by *ℤ f.constant) a.denominator, *ℤ-+ℤ by (f.constant *ℤ a.denominator) (row_sum a f.terms), ← (*ℤ_assoc by f.constant a.denominator)) (omega (arith, ints, terms))

-- ---- each column once

Lacks-add_term : (e : Col) (ts : List (Col × ℤ)) (c : Col) (k : ℤ) → Lacks e ts → same_column c e ≡ false → Lacks e (add_term ts c k)
Lacks-add_term e [] c k lacks other = (other, tt)
Lacks-add_term e (t ∷ ts) c k lacks other = by_test (same_column t.0 c) (Lacks-add_term e ts c k lacks.1 other)
  where
    by_test : (b : Bool) → Lacks e (add_term ts c k) → Lacks e (cond b ((t.0, t.1 +ℤ k) ∷ ts) (t ∷ add_term ts c k))
    by_test true rest = (lacks.0, lacks.1)
    by_test false rest = (lacks.0, rest)

turned : (c e : Col) → same_column c e ≡ false → same_column e c ≡ false
turned (Var i) (Var j) h = grind arith
turned (Var i) (Is j w) h = refl
turned (Is i v) (Var j) h = refl
turned (Is i v) (Is j w) h = grind (arith, ints)

pub IsApart-add_term : (ts : List (Col × ℤ)) (c : Col) (k : ℤ) → IsApart ts → IsApart (add_term ts c k)
IsApart-add_term [] c k apart = (tt, tt)
IsApart-add_term (t ∷ ts) c k apart = by_test (same_column t.0 c) refl (IsApart-add_term ts c k apart.1)
  where
    by_test : (b : Bool) → same_column t.0 c ≡ b → IsApart (add_term ts c k) → IsApart (cond b ((t.0, t.1 +ℤ k) ∷ ts) (t ∷ add_term ts c k))
    by_test true e rest = (apart.0, apart.1)
    by_test false e rest = (Lacks-add_term t.0 ts c k apart.0 (turned t.0 c e), rest)

pub IsApart-add_terms : (sum : List (Col × ℤ)) (by : ℤ) (ts : List (Col × ℤ)) → IsApart sum → IsApart (add_terms sum by ts)
IsApart-add_terms sum by [] apart = apart
IsApart-add_terms sum by (t ∷ ts) apart = IsApart-add_terms (add_term sum t.0 (by *ℤ t.1)) by ts (IsApart-add_term sum t.0 (by *ℤ t.1) apart)

Lacks-without_zeros : (c : Col) (ts : List (Col × ℤ)) → Lacks c ts → Lacks c (without_zeros ts)
Lacks-without_zeros c [] lacks = lacks
Lacks-without_zeros c (t ∷ ts) lacks = by_test (is_nonzero t) (Lacks-without_zeros c ts lacks.1)
  where
    by_test : (b : Bool) → Lacks c (without_zeros ts) → Lacks c (cond b (t ∷ without_zeros ts) (without_zeros ts))
    by_test true rest = (lacks.0, rest)
    by_test false rest = rest

pub IsApart-without_zeros : (ts : List (Col × ℤ)) → IsApart ts → IsApart (without_zeros ts)
IsApart-without_zeros [] apart = apart
IsApart-without_zeros (t ∷ ts) apart = by_test (is_nonzero t) (IsApart-without_zeros ts apart.1)
  where
    by_test : (b : Bool) → IsApart (without_zeros ts) → IsApart (cond b (t ∷ without_zeros ts) (without_zeros ts))
    by_test true rest = (Lacks-without_zeros t.0 ts apart.0, rest)
    by_test false rest = rest

-- ---- weights

abs_sum : (x y : ℤ) → unsigned_abs (x +ℤ y) ≤ unsigned_abs x + unsigned_abs y
abs_sum x y = omega (arith, ints)

pub weight-add_term : (ts : List (Col × ℤ)) (c : Col) (k : ℤ) → weight (add_term ts c k) ≤ weight ts + unsigned_abs k
weight-add_term [] c k = omega arith
weight-add_term (t ∷ ts) c k = by_test (same_column t.0 c) (weight-add_term ts c k)
  where
    by_test : (b : Bool) → weight (add_term ts c k) ≤ weight ts + unsigned_abs k → weight (cond b ((t.0, t.1 +ℤ k) ∷ ts) (t ∷ add_term ts c k)) ≤ weight (t ∷ ts) + unsigned_abs k
    by_test true rest = omega (arith, abs_sum t.1 k)
    by_test false rest = omega (arith, rest)

abs_product : (by x : ℤ) (n : ℕ) → unsigned_abs by * (unsigned_abs x + n) ≡ unsigned_abs (by *ℤ x) + unsigned_abs by * n
abs_product by x n = rw (unsigned_abs-mul by x) (omega arith)

pub weight-add_terms : (sum : List (Col × ℤ)) (by : ℤ) (ts : List (Col × ℤ)) → weight (add_terms sum by ts) ≤ weight sum + unsigned_abs by * weight ts
weight-add_terms sum by [] = omega arith
weight-add_terms sum by (t ∷ ts) =
    let rest = weight-add_terms (add_term sum t.0 (by *ℤ t.1)) by ts in
    let one = weight-add_term sum t.0 (by *ℤ t.1) in
    omega (arith, rest, one, abs_product by t.1 (weight ts))

pub form_weight-add_form : (sum : ColumnForm) (by : ℤ) (f : ColumnForm) → form_weight (add_form sum by f) ≤ form_weight sum + unsigned_abs by * form_weight f
form_weight-add_form sum by f =
    omega (arith, abs_sum sum.constant (by *ℤ f.constant), weight-add_terms sum.terms by f.terms, abs_product by f.constant (weight f.terms))

-- the weight that is left before a term, times the factor
pub weight_left : (by : ℤ) (ts : List (Col × ℤ)) (i : ℕ) (d : Col × ℤ) → i < length ts → unsigned_abs by * weight (drop i ts) ≡ unsigned_abs (by *ℤ (get_or ts i d).1) + unsigned_abs by * weight (drop (i + 1) ts)
weight_left by ts i d lt =
    ap (λ (n : ℕ). unsigned_abs by * n) (at_drop_more (λ (xs : List (Col × ℤ)). weight xs) ts i d lt)
    ∙ abs_product by (get_or ts i d).1 (weight (drop (i + 1) ts))

pub add_terms_more : (sum : List (Col × ℤ)) (by : ℤ) (ts : List (Col × ℤ)) (i : ℕ) (d : Col × ℤ) → i < length ts → add_terms sum by (drop i ts) ≡ add_terms (add_term sum (get_or ts i d).0 (by *ℤ (get_or ts i d).1)) by (drop (i + 1) ts)
add_terms_more sum by ts i d lt = at_drop_more (add_terms sum by) ts i d lt

pub coefficient_le : (ts : List (Col × ℤ)) (i : ℕ) (d : Col × ℤ) → i < length ts → unsigned_abs (get_or ts i d).1 ≤ weight ts
coefficient_le [] i d lt = absurd (omega arith)
coefficient_le (t ∷ ts) zero d lt = omega arith
coefficient_le (t ∷ ts) (suc i) d lt = let rest = coefficient_le ts i d (omega arith) in omega (arith, rest)

-- ---- the place of a column

pub at_place : (ts : List (Col × ℤ)) (i : ℕ) (d : Col × ℤ) (c : Col) (k : ℤ) → i < length ts → same_column (get_or ts i d).0 c ≡ true → take i ts ++ add_term (drop i ts) c k ≡ set ts i ((get_or ts i d).0, (get_or ts i d).1 +ℤ k)
at_place [] i d c k lt e = absurd (omega arith)
at_place (t ∷ ts) zero d c k lt e = rw e refl
at_place (t ∷ ts) (suc i) d c k lt e = ap (λ (xs : List (Col × ℤ)). t ∷ xs) (at_place ts i d c k (omega arith) e)

pub past_place : (ts : List (Col × ℤ)) (i : ℕ) (d : Col × ℤ) (c : Col) (k : ℤ) → i < length ts → same_column (get_or ts i d).0 c ≡ false → take i ts ++ add_term (drop i ts) c k ≡ take (suc i) ts ++ add_term (drop (suc i) ts) c k
past_place [] i d c k lt e = absurd (omega arith)
past_place (t ∷ ts) zero d c k lt e = rw e refl
past_place (t ∷ ts) (suc i) d c k lt e = ap (λ (xs : List (Col × ℤ)). t ∷ xs) (past_place ts i d c k (omega arith) e)

pub no_place : (ts : List (Col × ℤ)) (i : ℕ) (c : Col) (k : ℤ) → length ts ≤ i → take i ts ++ add_term (drop i ts) c k ≡ ts ++ (c, k) ∷ []
no_place [] zero c k le = refl
no_place [] (suc i) c k le = refl
no_place (t ∷ ts) zero c k le = absurd (omega arith)
no_place (t ∷ ts) (suc i) c k le = ap (λ (xs : List (Col × ℤ)). t ∷ xs) (no_place ts i c k (omega arith))
