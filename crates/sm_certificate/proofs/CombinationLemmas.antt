-- The combination of the rows, row after row and term after term.
use Rattle.std.proofs.Common.{◌≡◌, ℕ, ℤ, pos, suc, zero, ◌<◌, ◌≤◌, ◌+◌, List, [], ◌∷◌, length, get_or, set, take, drop, replicate, sym, ap, ◌∙◌, refl, arith, subst, ◌≢◌}
use Rattle.std.specs.Prelude.{◌==◌, ◌↔◌, if◌then◌else◌, true, false, Bool, IsTrue, Some, Result, Ok, Err, IsErr, IfOk, IfErr, AllPairs}
use Rattle.std.proofs.lemmas.Bool.{cases_eq}
use Rattle.std.proofs.Math.Logic.{⊎_elim}
use Rattle.std.proofs.Math.ListN.{length-set}
use Rattle.std.proofs.Math.Seq.{drop-cons}
use Rattle.std.proofs.lemmas.List.{get_or_default, drop_all, take_all}
use Rattle.sm_frac.specs.Rational.{ℚ, ◌+ℚ◌, ◌*ℚ◌, ◌-ℚ◌, ◌<ℚ◌, neg_ℚ, zero_ℚ, whole_ℚ, is_nonnegative}
use Rattle.sm_frac.specs.Frac.{value_of}
use Rattle.sm_frac.specs.declared.fraction.Frac.{Frac}
use Rattle.sm_frac.specs.declared.operation.Op.{Op}
use Rattle.sm_frac.specs.declared.operation.Op.TheVariants.{Plus, Minus}
use Rattle.sm_frac.specs.declared.operation.RangePassed.{RangePassed}
use Rattle.sm_frac.specs.Passes.{Passes}
use Rattle.sm_frac.proofs.Order.{lt_not_le}
use Rattle.sm_frac.proofs.RationalRing.{ring}
use Rattle.sm_certificate.specs.declared.program.Program.{Program}
use Rattle.sm_certificate.specs.declared.program.LpRow.{LpRow}
use Rattle.sm_certificate.specs.Signs.{AtLeast, Below, AtMost, Above}
use Rattle.sm_certificate.proofs.Signs.{by_test}
use Rattle.sm_certificate.specs.Numbers.{number_at}
use Rattle.sm_certificate.specs.Totals.{total}
use Rattle.sm_certificate.specs.Fine.{IsFine, AreFine}
use Rattle.sm_certificate.specs.Program.{column_count, low, high, coefficient, row_coefficient, row_bound, AreMultipliers, combined_coefficient, combined_bound, least_product, least_rest}
use Rattle.sm_certificate.specs.Checking.{PassesAt, IsProductStep, IsSumStep, IsRowTermsStep, IsColumnsStep, IsDifferencesStep, IsRowsBoundStep, IsConstantStep, with_constant, IsEndStep, IsEndsStep, least_end, multiplier_at, number_in, bound_in, no_row}
use Rattle.sm_certificate.proofs.Totals.{total_same, total_front, choose, choose_not}
use Rattle.sm_certificate.proofs.NumberLemmas.{number_at-set_same, number_at-set_other}
use Rattle.sm_certificate.proofs.FineLemmas.{fine_of, fine_moved}
use Rattle.sm_certificate.proofs.SlackLemmas.{term_here, term_off, coefficient_none}
use Rattle.sm_certificate.proofs.CertificateLemmas.{passes_at}
use Rattle.sm_certificate.proofs.PointLemmas.{product_moved, products_moved, product_zero_fine, total_more}

-- ---- the numbers that different terms give
next_nat : (i : ℕ) → suc i ≡ i + 1
next_nat i = omega arith

coefficient_step : (terms : List (ℕ × ℤ)) (i j : ℕ) (t : ℕ × ℤ) → i < length terms → t ≡ get_or terms i t → coefficient (take (suc i) terms) j ≡ coefficient (take i terms) j +ℚ (if t.0 == j then whole_ℚ t.1 else zero_ℚ)
unfolding coefficient
coefficient_step [] i j t l e = absurd (omega arith)
coefficient_step (s ∷ ts) zero j t l e = subst (λ (u : ℕ × ℤ). (if u.0 == j then whole_ℚ u.1 else zero_ℚ) +ℚ zero_ℚ ≡ zero_ℚ +ℚ (if t.0 == j then whole_ℚ t.1 else zero_ℚ)) e (swap (if t.0 == j then whole_ℚ t.1 else zero_ℚ))
  where
    swap : (z : ℚ) → z +ℚ zero_ℚ ≡ zero_ℚ +ℚ z
    swap z = simp ring
coefficient_step (s ∷ ts) (suc i) j t l e =
    ap (λ (z : ℚ). (if s.0 == j then whole_ℚ s.1 else zero_ℚ) +ℚ z) (coefficient_step ts i j t (omega arith) e)
    ∙ group (if s.0 == j then whole_ℚ s.1 else zero_ℚ) (coefficient (take i ts) j) (if t.0 == j then whole_ℚ t.1 else zero_ℚ)
  where
    group : (a b c : ℚ) → a +ℚ (b +ℚ c) ≡ a +ℚ b +ℚ c
    group a b c = simp ring

pub coefficient_more : (terms : List (ℕ × ℤ)) (i j : ℕ) (t : ℕ × ℤ) → i < length terms → t ≡ get_or terms i t → coefficient (take (i + 1) terms) j ≡ coefficient (take i terms) j +ℚ (if t.0 == j then whole_ℚ t.1 else zero_ℚ)
coefficient_more terms i j t l e = subst (λ (k : ℕ). coefficient (take k terms) j ≡ coefficient (take i terms) j +ℚ (if t.0 == j then whole_ℚ t.1 else zero_ℚ)) (next_nat i) (coefficient_step terms i j t l e)

-- a column that no term names
unnamed : (terms : List (ℕ × ℤ)) (c : ℕ) → ((k : ℕ) → k < length terms → (get_or terms k (0, pos 0)).0 ≢ c) → coefficient terms c ≡ zero_ℚ
unnamed [] c h = coefficient_none c
unnamed (t ∷ ts) c h = term_off t ts c (h 0 (omega arith)) ∙ unnamed ts c (λ k l. h (suc k) (omega arith))

-- one that none of the first i terms names
unnamed_before : (terms : List (ℕ × ℤ)) (i c : ℕ) → ((k : ℕ) → k < i → (get_or terms k (0, pos 0)).0 ≢ c) → i < length terms → coefficient (take i terms) c ≡ zero_ℚ
unnamed_before [] i c h l = absurd (omega arith)
unnamed_before (t ∷ ts) zero c h l = coefficient_none c
unnamed_before (t ∷ ts) (suc i) c h l = term_off t (take i ts) c (h 0 (omega arith)) ∙ unnamed_before ts i c (λ k m. h (suc k) (omega arith)) (omega arith)

-- the number of the column that term i names
named : (terms : List (ℕ × ℤ)) (i : ℕ) → i < length terms → AllPairs (λ s t. s.0 ≢ t.0) terms → coefficient terms (get_or terms i (0, pos 0)).0 ≡ whole_ℚ (get_or terms i (0, pos 0)).1
named [] i l apart = absurd (omega arith)
named (t ∷ ts) zero l apart = term_here t ts t.0 refl ∙ ap (λ (z : ℚ). whole_ℚ t.1 +ℚ z) (unnamed ts t.0 (λ k m e. apart 0 (suc k) (0, pos 0) (omega arith) (omega arith) (sym e))) ∙ last (whole_ℚ t.1)
  where
    last : (x : ℚ) → x +ℚ zero_ℚ ≡ x
    last x = simp ring
named (t ∷ ts) (suc i) l apart = term_off t ts (get_or ts i (0, pos 0)).0 (apart 0 (suc i) (0, pos 0) (omega arith) (omega arith)) ∙ named ts i (omega arith) (λ j k d m n. apart (suc j) (suc k) d (omega arith) (omega arith))

-- ---- one row's terms
-- the products of the first i terms are added, and no step passed
pub record TermsSoFar (old new : List Frac) (y : ℚ) (terms : List (ℕ × ℤ)) (i : ℕ) : Type 0 where
  pub long : length new ≡ length old
  pub exact : (j : ℕ) → number_at new j ≡ number_at old j +ℚ y *ℚ coefficient (take i terms) j
  pub fine : (j : ℕ) → AreFine (IsProductStep (number_at old j) y (coefficient (take i terms) j))

pub terms_start : (old : List Frac) (y : ℚ) (terms : List (ℕ × ℤ)) → TermsSoFar old old y terms 0
terms_start old y terms = record {
  long = refl;
  exact = λ j. nothing (number_at old j) y ∙ ap (λ (z : ℚ). number_at old j +ℚ y *ℚ z) (sym (coefficient_none j));
  fine = λ j. product_zero_fine (number_at old j) y (coefficient (take 0 terms) j) (coefficient_none j);
}
  where
    nothing : (z y : ℚ) → z ≡ z +ℚ y *ℚ zero_ℚ
    nothing z y = simp ring

-- at the column of the next term nothing is added yet
column_before : (old before : List Frac) (y : ℚ) (terms : List (ℕ × ℤ)) (i : ℕ) → i < length terms → AllPairs (λ s t. s.0 ≢ t.0) terms → TermsSoFar old before y terms i → (coefficient (take i terms) (get_or terms i (0, pos 0)).0 ≡ zero_ℚ) × (number_at before (get_or terms i (0, pos 0)).0 ≡ number_at old (get_or terms i (0, pos 0)).0)
column_before old before y terms i l apart h =
    let c = (get_or terms i (0, pos 0)).0 in
    let none = unnamed_before terms i c (λ k m. apart k i (0, pos 0) m l) l in
    (none, h.exact c ∙ ap (λ (z : ℚ). number_at old c +ℚ y *ℚ z) none ∙ nothing (number_at old c) y)
  where
    nothing : (z y : ℚ) → z +ℚ y *ℚ zero_ℚ ≡ z
    nothing z y = simp ring

first_last : (x : ℚ) → zero_ℚ +ℚ x ≡ x
first_last x = simp ring

pub terms_more : (old before : List Frac) (y : ℚ) (terms : List (ℕ × ℤ)) (i : ℕ) (t : ℕ × ℤ) (r : Frac) → i < length terms → t ≡ get_or terms i (0, pos 0) → t.0 < length old → AllPairs (λ s t. s.0 ≢ t.0) terms
    → value_of r ≡ number_at before t.0 +ℚ y *ℚ whole_ℚ t.1 → AreFine (IsProductStep (number_at before t.0) y (whole_ℚ t.1)) → TermsSoFar old before y terms i → TermsSoFar old (set before t.0 r) y terms (i + 1)
terms_more old before y terms i t r l is inside apart exact fine h =
    let at = column_before old before y terms i l apart h in
    let none : coefficient (take i terms) t.0 ≡ zero_ℚ = subst (λ (u : ℕ × ℤ). coefficient (take i terms) u.0 ≡ zero_ℚ) (sym is) at.0 in
    let same : number_at before t.0 ≡ number_at old t.0 = subst (λ (u : ℕ × ℤ). number_at before u.0 ≡ number_at old u.0) (sym is) at.1 in
    let kept = h.long in
    let item = is ∙ get_or_default terms i (0, pos 0) t l in
    let more = λ (j : ℕ). coefficient_more terms i j t l item in
    let here : coefficient (take (i + 1) terms) t.0 ≡ whole_ℚ t.1 = more t.0 ∙ ap (λ (z : ℚ). coefficient (take i terms) t.0 +ℚ z) (choose t.0 t.0 (whole_ℚ t.1) zero_ℚ refl) ∙ ap (λ (z : ℚ). z +ℚ whole_ℚ t.1) none ∙ first_last (whole_ℚ t.1) in
    let other : (j : ℕ) → t.0 ≢ j → coefficient (take (i + 1) terms) j ≡ coefficient (take i terms) j = λ j ne. more j ∙ ap (λ (z : ℚ). coefficient (take i terms) j +ℚ z) (choose_not t.0 j (whole_ℚ t.1) zero_ℚ ne) ∙ last (coefficient (take i terms) j) in
    record {
      long = length-set before t.0 r ∙ kept;
      exact = λ j. ⊎_elim
          (λ (e : t.0 ≡ j). subst (λ (k : ℕ). number_at (set before t.0 r) k ≡ number_at old k +ℚ y *ℚ coefficient (take (i + 1) terms) k) e
          (number_at-set_same before t.0 r (omega arith) ∙ exact ∙ ap (λ (z : ℚ). z +ℚ y *ℚ whole_ℚ t.1) same ∙ ap (λ (z : ℚ). number_at old t.0 +ℚ y *ℚ z) (sym here)))
          (λ (ne : t.0 ≢ j). number_at-set_other before t.0 r j (λ e. ne (sym e)) ∙ h.exact j ∙ ap (λ (z : ℚ). number_at old j +ℚ y *ℚ z) (sym (other j ne)))
          (cases_eq t.0 j);
      fine = λ j. ⊎_elim
          (λ (e : t.0 ≡ j). subst (λ (k : ℕ). AreFine (IsProductStep (number_at old k) y (coefficient (take (i + 1) terms) k))) e (products_moved (number_at before t.0) y (whole_ℚ t.1) (number_at old t.0) y (coefficient (take (i + 1) terms) t.0) same refl (sym here) fine))
          (λ (ne : t.0 ≢ j). products_moved (number_at old j) y (coefficient (take i terms) j) (number_at old j) y (coefficient (take (i + 1) terms) j) refl refl (sym (other j ne)) (h.fine j))
          (cases_eq t.0 j);
    }
  where
    last : (x : ℚ) → x +ℚ zero_ℚ ≡ x
    last x = simp ring

pub terms_end : (old new : List Frac) (y : ℚ) (terms : List (ℕ × ℤ)) (i : ℕ) → length terms ≤ i → TermsSoFar old new y terms i → (j : ℕ) → number_at new j ≡ number_at old j +ℚ y *ℚ coefficient terms j
terms_end old new y terms i l h j = h.exact j ∙ ap (λ (ts : List (ℕ × ℤ)). number_at old j +ℚ y *ℚ coefficient ts j) (take_all i terms l)

pub terms_fine : (n : ℕ) (old new : List Frac) (y : ℚ) (terms : List (ℕ × ℤ)) (i : ℕ) → length terms ≤ i → TermsSoFar old new y terms i → AreFine (IsRowTermsStep n (number_at old) y terms)
terms_fine n old new y terms i l h op x z s = subst (λ (ts : List (ℕ × ℤ)). AreFine (IsProductStep (number_at old s.0) y (coefficient ts s.0))) (take_all i terms l) (h.fine s.0) op x z s.2

pub row_terms_passed : (n : ℕ) (old before : List Frac) (y : ℚ) (terms : List (ℕ × ℤ)) (i : ℕ) (t : ℕ × ℤ) (op : Op) (f h : Frac) → i < length terms → t ≡ get_or terms i (0, pos 0) → t.0 < n → AllPairs (λ s t. s.0 ≢ t.0) terms → TermsSoFar old before y terms i
    → PassesAt (IsProductStep (number_at before t.0) y (whole_ℚ t.1)) op f h → PassesAt (IsRowTermsStep n (number_at old) y terms) op f h
row_terms_passed n old before y terms i t op f h l is inside apart so p =
    let at = column_before old before y terms i l apart so in
    let same : number_at before t.0 ≡ number_at old t.0 = subst (λ (u : ℕ × ℤ). number_at before u.0 ≡ number_at old u.0) (sym is) at.1 in
    let number : whole_ℚ t.1 ≡ coefficient terms t.0 = subst (λ (u : ℕ × ℤ). whole_ℚ u.1 ≡ coefficient terms u.0) (sym is) (sym (named terms i l apart)) in
    let q = product_moved (number_at before t.0) y (whole_ℚ t.1) (number_at old t.0) y (coefficient terms t.0) op f h same refl number p in
    record { step = (t.0, inside, q.step); passes = q.passes }

-- ---- sums of products
sum_fine_next : (n : ℕ) (a b : ℕ → ℚ) → AreFine (IsSumStep n a b) → AreFine (IsProductStep (total n (λ i. a i *ℚ b i)) (a n) (b n)) → AreFine (IsSumStep (suc n) a b)
sum_fine_next n a b h k op x y s = ⊎_elim
    (λ (e : s.0 ≡ n). k op x y (subst (λ (m : ℕ). IsProductStep (total m (λ i. a i *ℚ b i)) (a m) (b m) op x y) e s.2))
    (λ (ne : s.0 ≢ n). h op x y (s.0, (let l = s.1 in omega arith), s.2))
    (cases_eq s.0 n)

pub sum_fine_more : (n : ℕ) (a b : ℕ → ℚ) → AreFine (IsSumStep n a b) → AreFine (IsProductStep (total n (λ i. a i *ℚ b i)) (a n) (b n)) → AreFine (IsSumStep (n + 1) a b)
sum_fine_more n a b h k = subst (λ (m : ℕ). AreFine (IsSumStep m a b)) (next_nat n) (sum_fine_next n a b h k)

pub sum_fine_start : (a b : ℕ → ℚ) → AreFine (IsSumStep 0 a b)
sum_fine_start a b op x y s = absurd (let l = s.1 in omega arith)

pub combined_total : (rows : List LpRow) (ys : List ℚ) (j : ℕ) → length rows ≡ length ys → total (length rows) (λ k. multiplier_at ys k *ℚ number_in rows j k) ≡ combined_coefficient rows ys j
unfolding total combined_coefficient
combined_total [] [] j e = refl
combined_total [] (y ∷ ys) j e = absurd (omega arith)
combined_total (row ∷ rows) [] j e = absurd (omega arith)
combined_total (row ∷ rows) (y ∷ ys) j e = total_front (length rows) (λ k. multiplier_at (y ∷ ys) k *ℚ number_in (row ∷ rows) j k) ∙ ap (λ (z : ℚ). y *ℚ row_coefficient row j +ℚ z) (combined_total rows ys j (omega arith))

pub bound_total : (rows : List LpRow) (ys : List ℚ) → length rows ≡ length ys → total (length rows) (λ k. multiplier_at ys k *ℚ bound_in rows k) ≡ combined_bound rows ys
unfolding total combined_bound
bound_total [] [] e = refl
bound_total [] (y ∷ ys) e = absurd (omega arith)
bound_total (row ∷ rows) [] e = absurd (omega arith)
bound_total (row ∷ rows) (y ∷ ys) e = total_front (length rows) (λ k. multiplier_at (y ∷ ys) k *ℚ bound_in (row ∷ rows) k) ∙ ap (λ (z : ℚ). y *ℚ row_bound row +ℚ z) (bound_total rows ys (omega arith))

-- ---- a list of zeros
pub zeros_at : (xs : List Frac) (n : ℕ) (f : Frac) → xs ≡ replicate n f → value_of f ≡ zero_ℚ → (j : ℕ) → number_at xs j ≡ zero_ℚ
zeros_at xs n f e z j = ap (λ (ys : List Frac). number_at ys j) e ∙ none_at n j f z
  where
    none_at : (n j : ℕ) (f : Frac) → value_of f ≡ zero_ℚ → number_at (replicate n f) j ≡ zero_ℚ
    none_at zero j f e = refl
    none_at (suc n) zero f e = e
    none_at (suc n) (suc j) f e = none_at n j f e

-- ---- the columns' sums
pub record RowsSoFar (n : ℕ) (sums : List Frac) (rows : List LpRow) (ys : List ℚ) (i : ℕ) : Type 0 where
  pub exact : (j : ℕ) → number_at sums j ≡ total i (λ k. multiplier_at ys k *ℚ number_in rows j k)
  pub fine : (j : ℕ) → j < n → AreFine (IsSumStep i (multiplier_at ys) (number_in rows j))

pub rows_start : (n : ℕ) (sums : List Frac) (rows : List LpRow) (ys : List ℚ) → ((j : ℕ) → number_at sums j ≡ zero_ℚ) → RowsSoFar n sums rows ys 0
unfolding total
rows_start n sums rows ys z = record { exact = z; fine = λ j l. sum_fine_start (multiplier_at ys) (number_in rows j) }

-- a row as the code reads it
pub number_here : (rows : List LpRow) (i j : ℕ) (row : LpRow) (terms : List (ℕ × ℤ)) → i < length rows → row ≡ get_or rows i row → terms ≡ row.terms → coefficient terms j ≡ number_in rows j i
number_here rows i j row terms l e et = ap (λ (ts : List (ℕ × ℤ)). coefficient ts j) et ∙ ap (λ (r : LpRow). row_coefficient r j) (e ∙ get_or_default rows i row no_row l)

pub bound_here : (rows : List LpRow) (i : ℕ) (row : LpRow) → i < length rows → row ≡ get_or rows i row → row_bound row ≡ bound_in rows i
bound_here rows i row l e = ap (λ (r : LpRow). row_bound r) (e ∙ get_or_default rows i row no_row l)

pub rows_more : (n : ℕ) (before after : List Frac) (rows : List LpRow) (ys : List ℚ) (i : ℕ) (row : LpRow) (terms : List (ℕ × ℤ)) (y : ℚ) → i < length rows → row ≡ get_or rows i row → terms ≡ row.terms → y ≡ multiplier_at ys i
    → ((j : ℕ) → number_at after j ≡ number_at before j +ℚ y *ℚ coefficient terms j) → AreFine (IsRowTermsStep n (number_at before) y terms) → RowsSoFar n before rows ys i → RowsSoFar n after rows ys (i + 1)
rows_more n before after rows ys i row terms y l e et ey exact fine h = record {
  exact = λ j. total_more i (λ k. multiplier_at ys k *ℚ number_in rows j k) (number_at before j) (number_at after j) (y *ℚ coefficient terms j) (h.exact j) (ap (λ (z : ℚ). z *ℚ coefficient terms j) ey ∙ ap (λ (z : ℚ). multiplier_at ys i *ℚ z) (number_here rows i j row terms l e et)) (exact j);
  fine = λ j m. sum_fine_more i (multiplier_at ys) (number_in rows j) (h.fine j m) (products_moved (number_at before j) y (coefficient terms j) (total i (λ k. multiplier_at ys k *ℚ number_in rows j k)) (multiplier_at ys i) (number_in rows j i) (h.exact j) ey (number_here rows i j row terms l e et) (λ op u v s. fine op u v (j, m, s)));
}

pub rows_end : (n : ℕ) (sums : List Frac) (rows : List LpRow) (ys : List ℚ) (i : ℕ) → i ≡ length rows → length rows ≡ length ys → RowsSoFar n sums rows ys i → (j : ℕ) → number_at sums j ≡ combined_coefficient rows ys j
rows_end n sums rows ys i e long h j = h.exact j ∙ ap (λ (m : ℕ). total m (λ k. multiplier_at ys k *ℚ number_in rows j k)) e ∙ combined_total rows ys j long

pub rows_fine : (n : ℕ) (sums : List Frac) (rows : List LpRow) (ys : List ℚ) (i : ℕ) → i ≡ length rows → RowsSoFar n sums rows ys i → AreFine (IsColumnsStep n rows ys)
rows_fine n sums rows ys i e h op x y s = subst (λ (m : ℕ). AreFine (IsSumStep m (multiplier_at ys) (number_in rows s.0))) e (h.fine s.0 s.1) op x y s.2

pub columns_passed : (n : ℕ) (before : List Frac) (rows : List LpRow) (ys : List ℚ) (i : ℕ) (row : LpRow) (terms : List (ℕ × ℤ)) (y : ℚ) (op : Op) (f h : Frac) → i < length rows → row ≡ get_or rows i row → terms ≡ row.terms → y ≡ multiplier_at ys i → RowsSoFar n before rows ys i
    → PassesAt (IsRowTermsStep n (number_at before) y terms) op f h → PassesAt (IsColumnsStep n rows ys) op f h
columns_passed n before rows ys i row terms y op f h l e et ey so p =
    let j = p.step.0 in
    let q = product_moved (number_at before j) y (coefficient terms j) (total i (λ k. multiplier_at ys k *ℚ number_in rows j k)) (multiplier_at ys i) (number_in rows j i) op f h (so.exact j) ey (number_here rows i j row terms l e et) (record { step = p.step.2; passes = p.passes }) in
    record { step = (j, p.step.1, (i, l, q.step)); passes = q.passes }

-- ---- what is left of the target's coefficients
pub record DifferencesSoFar (old new : List Frac) (target : ℕ → ℚ) (i : ℕ) : Type 0 where
  pub long : length new ≡ length old
  pub done : (k : ℕ) → k < i → number_at new k ≡ target k -ℚ number_at old k
  pub rest : (k : ℕ) → i ≤ k → number_at new k ≡ number_at old k
  pub fine : (k : ℕ) → k < i → IsFine Minus (target k) (number_at old k)

pub differences_start : (old : List Frac) (target : ℕ → ℚ) → DifferencesSoFar old old target 0
differences_start old target = record { long = refl; done = λ k l. absurd (omega arith); rest = λ k l. refl; fine = λ k l. absurd (omega arith) }

pub differences_more : (old before : List Frac) (target : ℕ → ℚ) (i : ℕ) (r : Frac) → i < length old → value_of r ≡ target i -ℚ number_at before i → IsFine Minus (target i) (number_at before i) → DifferencesSoFar old before target i → DifferencesSoFar old (set before i r) target (i + 1)
differences_more old before target i r l exact fine h =
    let same = h.rest i (omega arith) in
    let kept = h.long in
    record {
      long = length-set before i r ∙ kept;
      done = λ k m. ⊎_elim
          (λ (e : i ≡ k). subst (λ (q : ℕ). number_at (set before i r) q ≡ target q -ℚ number_at old q) e (number_at-set_same before i r (omega arith) ∙ exact ∙ ap (λ (z : ℚ). target i -ℚ z) same))
          (λ (ne : i ≢ k). number_at-set_other before i r k (λ e. ne (sym e)) ∙ h.done k (omega arith))
          (cases_eq i k);
      rest = λ k m. number_at-set_other before i r k (λ e. absurd (omega arith)) ∙ h.rest k (omega arith);
      fine = λ k m. ⊎_elim
          (λ (e : i ≡ k). subst (λ (q : ℕ). IsFine Minus (target q) (number_at old q)) e (fine_moved Minus (target i) (number_at before i) (target i) (number_at old i) fine refl same))
          (λ (ne : i ≢ k). h.fine k (omega arith))
          (cases_eq i k);
    }

pub differences_fine : (n : ℕ) (old new : List Frac) (target : ℕ → ℚ) (i : ℕ) → n ≤ i → DifferencesSoFar old new target i → AreFine (IsDifferencesStep n target (number_at old))
differences_fine n old new target i l h op x y s =
    let d = s.2 in
    subst (λ (o : Op). IsFine o x y) (sym d.operation) (fine_moved Minus (target s.0) (number_at old s.0) x y (h.fine s.0 (let m = s.1 in omega arith)) (sym d.left_is) (sym d.right_is))

pub difference_passed : (n : ℕ) (old before : List Frac) (target : ℕ → ℚ) (i : ℕ) (f h : Frac) (e : RangePassed) → i < n → value_of f ≡ target i → value_of h ≡ number_at before i → e ≡ record { op = Minus; left = f; right = h } → Passes Minus f h → DifferencesSoFar old before target i → PassesAt (IsDifferencesStep n target (number_at old)) e.op e.left e.right
difference_passed n old before target i f h e l ef eh is passes so = passes_at (IsDifferencesStep n target (number_at old)) Minus f h e is passes (i, l, record { operation = refl; left_is = ef; right_is = eh ∙ so.rest i (omega arith) })

-- ---- the rows' bounds
pub rows_bound_passed : (rows : List LpRow) (ys : List ℚ) (i : ℕ) (row : LpRow) (s y b : ℚ) (op : Op) (f h : Frac) → i < length rows → row ≡ get_or rows i row → s ≡ total i (λ k. multiplier_at ys k *ℚ bound_in rows k) → y ≡ multiplier_at ys i → b ≡ row_bound row → PassesAt (IsProductStep s y b) op f h → PassesAt (IsRowsBoundStep rows ys) op f h
rows_bound_passed rows ys i row s y b op f h l e es ey eb p =
    let q = product_moved s y b (total i (λ k. multiplier_at ys k *ℚ bound_in rows k)) (multiplier_at ys i) (bound_in rows i) op f h es ey (eb ∙ bound_here rows i row l e) p in
    record { step = (i, l, q.step); passes = q.passes }

pub record BoundSoFar (rows : List LpRow) (ys : List ℚ) (i : ℕ) (s : ℚ) : Type 0 where
  pub exact : s ≡ total i (λ k. multiplier_at ys k *ℚ bound_in rows k)
  pub fine : AreFine (IsSumStep i (multiplier_at ys) (bound_in rows))

pub bound_start : (rows : List LpRow) (ys : List ℚ) (s : ℚ) → s ≡ zero_ℚ → BoundSoFar rows ys 0 s
unfolding total
bound_start rows ys s e = record { exact = e; fine = sum_fine_start (multiplier_at ys) (bound_in rows) }

pub bound_more : (rows : List LpRow) (ys : List ℚ) (i : ℕ) (row : LpRow) (s r y b : ℚ) → i < length rows → row ≡ get_or rows i row → y ≡ multiplier_at ys i → b ≡ row_bound row → r ≡ s +ℚ y *ℚ b → AreFine (IsProductStep s y b) → BoundSoFar rows ys i s → BoundSoFar rows ys (i + 1) r
bound_more rows ys i row s r y b l e ey eb exact fine h =
    let is = eb ∙ bound_here rows i row l e in
    record {
      exact = total_more i (λ k. multiplier_at ys k *ℚ bound_in rows k) s r (y *ℚ b) h.exact (ap (λ (z : ℚ). z *ℚ b) ey ∙ ap (λ (z : ℚ). multiplier_at ys i *ℚ z) is) exact;
      fine = sum_fine_more i (multiplier_at ys) (bound_in rows) h.fine (products_moved s y b (total i (λ k. multiplier_at ys k *ℚ bound_in rows k)) (multiplier_at ys i) (bound_in rows i) h.exact ey is fine);
    }

pub bound_end : (rows : List LpRow) (ys : List ℚ) (i : ℕ) (s : ℚ) → i ≡ length rows → length rows ≡ length ys → BoundSoFar rows ys i s → s ≡ combined_bound rows ys
bound_end rows ys i s e long h = h.exact ∙ ap (λ (m : ℕ). total m (λ k. multiplier_at ys k *ℚ bound_in rows k)) e ∙ bound_total rows ys long

pub bound_fine : (rows : List LpRow) (ys : List ℚ) (i : ℕ) (s : ℚ) → i ≡ length rows → BoundSoFar rows ys i s → AreFine (IsRowsBoundStep rows ys)
bound_fine rows ys i s e h = subst (λ (m : ℕ). AreFine (IsSumStep m (multiplier_at ys) (bound_in rows))) e h.fine

-- ---- the constant
pub constant_exact : (bound : Frac) (constant : ℤ) (number : Frac) (res : Result Frac RangePassed) → value_of number ≡ whole_ℚ constant → IfOk res (λ r. value_of r ≡ value_of bound +ℚ value_of number) → IfOk res (λ r. value_of r ≡ with_constant (value_of bound) (Some constant))
constant_exact bound constant number (Ok r) e is = is ∙ ap (λ (z : ℚ). value_of bound +ℚ z) e
constant_exact bound constant number (Err x) e is = tt

pub constant_fine : (bound : Frac) (constant : ℤ) (number : Frac) (res : Result Frac RangePassed) → value_of number ≡ whole_ℚ constant → (Passes Plus bound number → IsErr res) → IfOk res (λ r. AreFine (IsConstantStep (value_of bound) (Some constant)))
constant_fine bound constant number (Ok r) e plus = λ op x y s. subst (λ (o : Op). IsFine o x y) (sym s.0) (fine_moved Plus (value_of bound) (value_of number) x y (fine_of Plus bound number (λ p. absurd (let no = plus p in cc))) (sym s.1) (e ∙ sym s.2))
constant_fine bound constant number (Err x) e plus = tt

pub constant_passed : (bound : Frac) (constant : ℤ) (number : Frac) (res : Result Frac RangePassed) → value_of number ≡ whole_ℚ constant → (IsErr res → Passes Plus bound number) → IfErr res (λ e. e ≡ record { op = Plus; left = bound; right = number }) → IfErr res (λ e. PassesAt (IsConstantStep (value_of bound) (Some constant)) e.op e.left e.right)
constant_passed bound constant number (Ok r) e plus is = tt
constant_passed bound constant number (Err x) e plus is = passes_at (IsConstantStep (value_of bound) (Some constant)) Plus bound number x is (plus refl) (refl, refl, e)

-- ---- lawful multipliers
pub lawful_long : (rows : List LpRow) (ys : List ℚ) → AreMultipliers rows ys → length rows ≡ length ys
unfolding AreMultipliers
lawful_long [] [] h = refl
lawful_long [] (y ∷ ys) h = absurd h
lawful_long (row ∷ rows) [] h = absurd h
lawful_long (row ∷ rows) (y ∷ ys) h = ap suc (lawful_long rows ys h.1)

-- the multipliers from place i on are lawful exactly where all are
lawful_cons : (row : LpRow) (rows : List LpRow) (y : ℚ) (ys : List ℚ) → AreMultipliers (row ∷ rows) (y ∷ ys) ↔ ((row.equal ≡ false → AtLeast y) × AreMultipliers rows ys)
unfolding AreMultipliers
lawful_cons row rows y ys = (λ h. h, λ h. h)

pub lawful_here : (rows : List LpRow) (ys : List ℚ) (i : ℕ) (row : LpRow) (y : ℚ) → i < length rows → i < length ys → row ≡ get_or rows i row → y ≡ get_or ys i zero_ℚ → AreMultipliers (drop i rows) (drop i ys) ↔ ((row.equal ≡ false → AtLeast y) × AreMultipliers (drop (i + 1) rows) (drop (i + 1) ys))
lawful_here rows ys i row y l m e ey =
    subst (λ (k : ℕ). AreMultipliers (drop i rows) (drop i ys) ↔ ((row.equal ≡ false → AtLeast y) × AreMultipliers (drop k rows) (drop k ys))) (next_nat i)
    (subst (λ (xs : List LpRow). AreMultipliers xs (drop i ys) ↔ ((row.equal ≡ false → AtLeast y) × AreMultipliers (drop (suc i) rows) (drop (suc i) ys))) (sym (drop-cons rows i row l ∙ ap (λ (r : LpRow). r ∷ drop (suc i) rows) (sym e)))
    (subst (λ (xs : List ℚ). AreMultipliers (row ∷ drop (suc i) rows) xs ↔ ((row.equal ≡ false → AtLeast y) × AreMultipliers (drop (suc i) rows) (drop (suc i) ys))) (sym (drop-cons ys i zero_ℚ m ∙ ap (λ (r : ℚ). r ∷ drop (suc i) ys) (sym ey)))
    (lawful_cons row (drop (suc i) rows) y (drop (suc i) ys))))

pub least_by_end : (r l h : ℚ) → r *ℚ least_end r l h ≡ least_product r l h
least_by_end r l h = by_sign (is_nonnegative r)
  where
    by_sign : (b : Bool) → r *ℚ (if b then l else h) ≡ (if b then r *ℚ l else r *ℚ h)
    by_sign true = refl
    by_sign false = refl

-- ---- lawful multipliers from a place on
abbrev pub LawfulFrom : List LpRow → List ℚ → ℕ → Type 0
LawfulFrom rows ys i = AreMultipliers (drop i rows) (drop i ys) ↔ AreMultipliers rows ys

pub lawful_start : (rows : List LpRow) (ys : List ℚ) → LawfulFrom rows ys 0
lawful_start rows ys = (λ h. h, λ h. h)

pub lawful_next : (rows : List LpRow) (ys : List ℚ) (i : ℕ) (row : LpRow) (y : ℚ) → i < length rows → i < length ys → row ≡ get_or rows i row → y ≡ get_or ys i zero_ℚ → (row.equal ≡ false → AtLeast y) → LawfulFrom rows ys i → LawfulFrom rows ys (i + 1)
lawful_next rows ys i row y l m e ey sign h =
    let here = lawful_here rows ys i row y l m e ey in
    (λ a. h.0 (here.1 (sign, a)), λ a. (here.0 (h.1 a)).1)

pub lawful_stop : (rows : List LpRow) (ys : List ℚ) (i : ℕ) (row : LpRow) (y : ℚ) → i < length rows → i < length ys → row ≡ get_or rows i row → y ≡ get_or ys i zero_ℚ → ((row.equal ≡ false → AtLeast y) → ⊥) → LawfulFrom rows ys i → AreMultipliers rows ys → ⊥
lawful_stop rows ys i row y l m e ey wrong h a = wrong ((lawful_here rows ys i row y l m e ey).0 (h.1 a)).0

pub lawful_end : (rows : List LpRow) (ys : List ℚ) (i : ℕ) → length rows ≤ i → length rows ≡ length ys → LawfulFrom rows ys i → AreMultipliers rows ys
unfolding AreMultipliers
lawful_end rows ys i l e h = h.0 (subst (λ (xs : List LpRow). AreMultipliers xs (drop i ys)) (sym (drop_all i rows l)) (subst (λ (zs : List ℚ). AreMultipliers [] zs) (sym (drop_all i ys (let n = e in omega arith))) tt))

pub end_low : (r l h : ℚ) → AtLeast r → l ≡ least_end r l h
end_low r l h a = ap (λ (b : Bool). if b then l else h) (sym a.is)

pub end_high : (r l h : ℚ) → Below r → h ≡ least_end r l h
end_high r l h b = ap (λ (c : Bool). if c then l else h) (sym (by_test (is_nonnegative r) (λ t. b.is (record { is = t }))))

-- ---- the ends of the columns
pub ends_here : (p : Program) (columns : List (ℤ × ℤ)) (j : ℕ) → columns ≡ p.columns → (whole_ℚ (get_or columns j (pos 0, pos 0)).0 ≡ low p j) × (whole_ℚ (get_or columns j (pos 0, pos 0)).1 ≡ high p j)
unfolding low high
ends_here p columns j e = (ap (λ (xs : List (ℤ × ℤ)). whole_ℚ (get_or xs j (pos 0, pos 0)).0) e, ap (λ (xs : List (ℤ × ℤ)). whole_ℚ (get_or xs j (pos 0, pos 0)).1) e)

pub zero_end_fine : (s r l h : ℚ) → r ≡ zero_ℚ → AreFine (IsEndStep s r l h)
zero_end_fine s r l h e op x y step = absurd (step.0 e)

pub end_fine : (res : Result Frac RangePassed) (s r l h z : ℚ) → z ≡ least_end r l h → IfOk res (λ f. AreFine (IsProductStep s r z)) → IfOk res (λ f. AreFine (IsEndStep s r l h))
end_fine (Ok f) s r l h z e fine = λ op x y step. products_moved s r z s r (least_end r l h) refl refl e fine op x y step.1
end_fine (Err x) s r l h z e fine = tt

pub end_exact : (res : Result Frac RangePassed) (s r l h z : ℚ) → z ≡ least_end r l h → IfOk res (λ f. value_of f ≡ s +ℚ r *ℚ z) → IfOk res (λ f. value_of f ≡ s +ℚ r *ℚ least_end r l h)
end_exact (Ok f) s r l h z e is = is ∙ ap (λ (w : ℚ). s +ℚ r *ℚ w) e
end_exact (Err x) s r l h z e is = tt

pub end_passed : (res : Result Frac RangePassed) (s r l h z : ℚ) → (r ≡ zero_ℚ → ⊥) → z ≡ least_end r l h → IfErr res (λ e. PassesAt (IsProductStep s r z) e.op e.left e.right) → IfErr res (λ e. PassesAt (IsEndStep s r l h) e.op e.left e.right)
end_passed (Ok f) s r l h z some e p = tt
end_passed (Err x) s r l h z some e p =
    let q = product_moved s r z s r (least_end r l h) x.op x.left x.right refl refl e p in
    record { step = (some, q.step); passes = q.passes }

-- the product of a column's remaining coefficient and its end
abbrev pub end_product : Program → (ℕ → ℚ) → ℕ → ℚ
end_product p rest k = rest k *ℚ least_end (rest k) (low p k) (high p k)

abbrev pub EndFineAt : Program → ℚ → (ℕ → ℚ) → ℕ → Type 0
EndFineAt p bound rest k = AreFine (IsEndStep (bound +ℚ total k (end_product p rest)) (rest k) (low p k) (high p k))

pub record EndsSoFar (p : Program) (bound : ℚ) (rest : ℕ → ℚ) (i : ℕ) (s : ℚ) : Type 0 where
  pub exact : s ≡ bound +ℚ total i (end_product p rest)
  pub fine : (k : ℕ) → k < i → EndFineAt p bound rest k

pub ends_start : (p : Program) (bound : ℚ) (rest : ℕ → ℚ) → EndsSoFar p bound rest 0 bound
unfolding total
ends_start p bound rest = record { exact = last bound; fine = λ k l. absurd (omega arith) }
  where
    last : (x : ℚ) → x ≡ x +ℚ zero_ℚ
    last x = simp ring

-- the steps at a column, where l and h are its ends
pub end_at : (p : Program) (bound : ℚ) (rest : ℕ → ℚ) (i : ℕ) (s r l h : ℚ) (op : Op) (f g : Frac) → i < column_count p → s ≡ bound +ℚ total i (end_product p rest) → r ≡ rest i → l ≡ low p i → h ≡ high p i → PassesAt (IsEndStep s r l h) op f g → PassesAt (IsEndsStep p bound rest) op f g
end_at p bound rest i s r l h op f g inside es er el eh q = record {
  step = (
    i,
    inside,
    subst (λ (z : ℚ). IsEndStep (bound +ℚ total i (end_product p rest)) (rest i) (low p i) z op (value_of f) (value_of g)) eh
        (subst (λ (z : ℚ). IsEndStep (bound +ℚ total i (end_product p rest)) (rest i) z h op (value_of f) (value_of g)) el
        (subst (λ (z : ℚ). IsEndStep (bound +ℚ total i (end_product p rest)) z l h op (value_of f) (value_of g)) er
        (subst (λ (z : ℚ). IsEndStep z r l h op (value_of f) (value_of g)) es q.step))),
  );
  passes = q.passes;
}

pub ends_more : (p : Program) (bound : ℚ) (rest : ℕ → ℚ) (i : ℕ) (s v r l h : ℚ) → r ≡ rest i → l ≡ low p i → h ≡ high p i → v ≡ s +ℚ r *ℚ least_end r l h → AreFine (IsEndStep s r l h) → EndsSoFar p bound rest i s → EndsSoFar p bound rest (i + 1) v
ends_more p bound rest i s v r l h er el eh exact fine so =
    let product : r *ℚ least_end r l h ≡ end_product p rest i = ap (λ (z : ℚ). z *ℚ least_end z l h) er ∙ ap (λ (z : ℚ). rest i *ℚ least_end (rest i) z h) el ∙ ap (λ (z : ℚ). rest i *ℚ least_end (rest i) (low p i) z) eh in
    record {
      exact = exact ∙ ap (λ (z : ℚ). z +ℚ r *ℚ least_end r l h) so.exact ∙ ap (λ (z : ℚ). bound +ℚ total i (end_product p rest) +ℚ z) product ∙ group bound (total i (end_product p rest)) (end_product p rest i) ∙ ap (λ (z : ℚ). bound +ℚ z) (total_more i (end_product p rest) (total i (end_product p rest)) (total i (end_product p rest) +ℚ end_product p rest i) (end_product p rest i) refl refl refl);
      fine = λ k m. ⊎_elim
          (λ (e : i ≡ k). subst (λ (q : ℕ). EndFineAt p bound rest q) e
          (subst (λ (z : ℚ). AreFine (IsEndStep (bound +ℚ total i (end_product p rest)) (rest i) (low p i) z)) eh
          (subst (λ (z : ℚ). AreFine (IsEndStep (bound +ℚ total i (end_product p rest)) (rest i) z h)) el
          (subst (λ (z : ℚ). AreFine (IsEndStep (bound +ℚ total i (end_product p rest)) z l h)) er
          (subst (λ (z : ℚ). AreFine (IsEndStep z r l h)) so.exact fine)))))
          (λ (ne : i ≢ k). so.fine k (omega arith))
          (cases_eq i k);
    }
  where
    group : (a b c : ℚ) → a +ℚ b +ℚ c ≡ a +ℚ (b +ℚ c)
    group a b c = simp ring

pub ends_end : (p : Program) (bound : ℚ) (rest : ℕ → ℚ) (i : ℕ) (s : ℚ) → i ≡ column_count p → EndsSoFar p bound rest i s → s ≡ bound +ℚ least_rest p rest
ends_end p bound rest i s e so =
    so.exact ∙ ap (λ (n : ℕ). bound +ℚ total n (end_product p rest)) e
    ∙ ap (λ (z : ℚ). bound +ℚ z) (total_same (column_count p) (end_product p rest) (λ k. least_product (rest k) (low p k) (high p k)) (λ k l. least_by_end (rest k) (low p k) (high p k)))

pub ends_fine : (p : Program) (bound : ℚ) (rest : ℕ → ℚ) (i : ℕ) (s : ℚ) → column_count p ≤ i → EndsSoFar p bound rest i s → AreFine (IsEndsStep p bound rest)
ends_fine p bound rest i s l so op x y step = so.fine step.0 (let m = step.1 in omega arith) op x y step.2

-- ---- a bound above zero
pub above_lt : (b : ℚ) → Above b → zero_ℚ <ℚ b
above_lt b h = record { lt = by_test (is_nonnegative (zero_ℚ -ℚ b)) (λ t. h.is (record { is = subst (λ (z : ℚ). IsTrue (is_nonnegative z)) (turn b) t })) }
  where
    turn : (b : ℚ) → zero_ℚ -ℚ b ≡ neg_ℚ b
    turn b = simp ring

pub at_most_not : (b : ℚ) → AtMost b → zero_ℚ <ℚ b → ⊥
at_most_not b h lt = lt_not_le zero_ℚ b lt (record { le = subst (λ (z : ℚ). IsTrue (is_nonnegative z)) (turn b) h.is })
  where
    turn : (b : ℚ) → neg_ℚ b ≡ zero_ℚ -ℚ b
    turn b = simp ring
