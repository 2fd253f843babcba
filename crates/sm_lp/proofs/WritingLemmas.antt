-- Writing the first dictionary's rows.
use Rattle.std.proofs.Common.{◌≡◌, ℕ, ℤ, pos, suc, zero, ◌<◌, ◌≤◌, ◌≢◌, ◌+◌, ◌-◌, ◌*◌, ◌^◌, List, [], ◌∷◌, length, get_or, set, drop, sym, ap, ◌∙◌, refl, arith, subst, inl, inr, unsigned_abs, get_or-set_same, get_or-set_other, replicate}
use Rattle.std.specs.Prelude.{◌⊎◌, ◌==◌, if◌then◌else◌, Bool, true, false, All, AllPairs, count_by, sum_by, cond, not, slice_index_or, nat_lt, neg_ℤ, ◌*ℤ◌, ◌+ℤ◌}
use Rattle.std.proofs.Math.ListN.{length-set}
use Rattle.std.proofs.Math.Seq.{drop-cons}
use Rattle.std.proofs.lemmas.List.{get_or-replicate, get_or_past, length-replicate, get_or_default, drop_all}
use Rattle.sm_certificate.proofs.Totals.{choose, choose_not}
use Rattle.sm_certificate.proofs.Totals.{low_or_high}
use Rattle.sm_lp.proofs.FirstLemmas.{affine_low, affine_at, first_half, first_end, first_goal, first_past, first_right}
use Rattle.sm_certificate.proofs.Totals.{total_same, total-scaled}
use Rattle.sm_lp.proofs.CellLemmas.{rows_apart, cell_read, cell_right, cell_under}
use Rattle.std.proofs.lemmas.Bool.{cases_eq}
use Rattle.std.proofs.lemmas.Bool.Decides.{nat_tests}
use Rattle.std.proofs.lemmas.List.Sums.{sum_by-cons}
use Rattle.std.proofs.lemmas.Int.{ints, unsigned_abs-mul}
use Rattle.std.proofs.Math.Nat.{mul-le-mul_left, mul-le-mul_right}
use Rattle.std.proofs.Math.Logic.{⊎_elim}
use Rattle.sm_frac.specs.Rational.{ℚ, ◌+ℚ◌, ◌*ℚ◌, ◌-ℚ◌, neg_ℚ, zero_ℚ, one_ℚ, whole_ℚ, neg_ℚ-fraction}
use Rattle.sm_frac.proofs.RationalRing.{ring}
use Rattle.sm_frac.proofs.CommonDenominator.{whole_sum, whole_product}
use Rattle.sm_frac.specs.Frac.{value_of}
use Rattle.sm_frac.specs.declared.fraction.Frac.{Frac}
use Rattle.sm_certificate.specs.declared.program.Program.{Program}
use Rattle.sm_certificate.specs.declared.program.LpRow.{LpRow}
use Rattle.sm_certificate.specs.Numbers.{number_at}
use Rattle.sm_certificate.specs.Totals.{total}
use Rattle.sm_certificate.specs.Program.{column_count, coefficient, low, high, cost}
use Rattle.sm_certificate.specs.Conditions.{IsTerm}
use Rattle.sm_certificate.specs.Slacks.{Half, halves, halves_of, half_count, half_at, slack_count, number_count}
use Rattle.sm_lp.specs.First.{half_entry, end_entry, first_entry, first}
use Rattle.sm_lp.specs.Writing.{AreNumbers, shift_total, signed, IsRowWritten, AreHalvesWritten, AreRowsWritten, IsEndWritten, AreEndsWritten, IsZeroFrom, IsHalfAt, IsCounting, AreFirstCells}
use Rattle.sm_lp.specs.Table.{cell_entry}
use Rattle.std.proofs.Math.Path.{fun_ext}
use Rattle.sm_lp.proofs.PivotSteps.{dictionary, same_dictionary}
use Rattle.sm_certificate.proofs.NumberLemmas.{number_at-set_same, number_at-set_other, number_read, number_past}
use Rattle.sm_certificate.proofs.SlackLemmas.{halves_count, count_two, count_one, drop_halves, all_counted, coefficient_none, term_here, term_off}

-- the terms of the first i are written
pub record NumbersSoFar (n : ℕ) (terms : List (ℕ × ℤ)) (i : ℕ) (numbers : List ℤ) : Type 0 where
  pub long : length numbers ≡ n
  pub small : (j : ℕ) → unsigned_abs (get_or numbers j (pos 0)) ≤ 2 ^ 42
  pub exact : (j : ℕ) → whole_ℚ (get_or numbers j (pos 0)) +ℚ coefficient (drop i terms) j ≡ coefficient terms j
  pub fresh : (j : ℕ) → (get_or numbers j (pos 0) ≡ pos 0) ⊎ ((k : ℕ) → i ≤ k → k < length terms → (get_or terms k (0, pos 0)).0 ≢ j)

-- the first j products are summed
pub record ShiftSoFar (numbers : List ℤ) (columns : List (ℤ × ℤ)) (j : ℕ) (shift : ℤ) : Type 0 where
  pub sum : whole_ℚ shift ≡ total j (λ k. whole_ℚ (get_or numbers k (pos 0)) *ℚ whole_ℚ (get_or columns k (pos 0, pos 0)).0)
  pub small : unsigned_abs shift + 2 ^ 73 * count_by (λ (box : ℤ × ℤ). not (unsigned_abs box.0 == 0)) (drop j columns) ≤ 2 ^ 73 * count_by (λ (box : ℤ × ℤ). not (unsigned_abs box.0 == 0)) columns

pub record WrittenSoFar (old new : List Frac) (s : ℕ) (numbers : List ℤ) (turned : Bool) (j : ℕ) : Type 0 where
  pub long : length new ≡ length old
  pub entries : (k : ℕ) → k < j → number_at new (s + k) ≡ signed turned (whole_ℚ (get_or numbers k (pos 0)))
  pub before : (k : ℕ) → k < s → number_at new k ≡ number_at old k
  pub after : (k : ℕ) → s + j ≤ k → number_at new k ≡ number_at old k

-- the halves of the first rows are written
pub record HalvesSoFar (p : Program) (old new : List Frac) (row half : ℕ) : Type 0 where
  pub long : length new ≡ length old
  pub count : half + length (halves (drop row p.rows)) ≡ half_count p
  pub rest : (k : ℕ) → half_at p (half + k) ≡ get_or (halves (drop row p.rows)) k (record { coefficient = λ _. zero_ℚ; bound = zero_ℚ })
  pub done : (i : ℕ) → i < half → IsHalfAt p new (i * suc (column_count p)) (half_at p i)
  pub after : (k : ℕ) → half * suc (column_count p) ≤ k → number_at new k ≡ number_at old k

pub record EndsSoFar (p : Program) (old new : List Frac) (i : ℕ) : Type 0 where
  pub long : length new ≡ length old
  pub ends : (k j : ℕ) → k < i → j < suc (column_count p) → number_at new ((half_count p + k) * suc (column_count p) + j) ≡ end_entry p k j
  pub before : (k : ℕ) → k < half_count p * suc (column_count p) → number_at new k ≡ number_at old k
  pub after : (k : ℕ) → (half_count p + i) * suc (column_count p) ≤ k → number_at new k ≡ number_at old k

-- ---- counting halves
abbrev none_half : Half
none_half = record { coefficient = λ _. zero_ℚ; bound = zero_ℚ }

kind_first : (e : Bool) (a b : Half) (hs : List Half) (k : ℕ) → k < length (if e then a ∷ b ∷ [] else a ∷ []) → get_or (if e then a ∷ b ∷ hs else a ∷ hs) k none_half ≡ get_or (if e then a ∷ b ∷ [] else a ∷ []) k none_half
kind_first true a b hs zero h = refl
kind_first true a b hs (suc zero) h = refl
kind_first true a b hs (suc (suc k)) h = absurd (omega arith)
kind_first false a b hs zero h = refl
kind_first false a b hs (suc k) h = absurd (omega arith)

kind_rest : (e : Bool) (a b : Half) (hs : List Half) (k : ℕ) → get_or (if e then a ∷ b ∷ hs else a ∷ hs) (length (if e then a ∷ b ∷ [] else a ∷ []) + k) none_half ≡ get_or hs k none_half
kind_rest true a b hs k = let e : 2 + k ≡ suc (suc k) = omega arith in ap (λ (i : ℕ). get_or (a ∷ b ∷ hs) i none_half) e
kind_rest false a b hs k = let e : 1 + k ≡ suc k = omega arith in ap (λ (i : ℕ). get_or (a ∷ hs) i none_half) e

abbrev up : LpRow → Half
up row = record { coefficient = λ j. coefficient row.terms j; bound = whole_ℚ row.bound }

abbrev back : LpRow → Half
back row = record { coefficient = λ j. neg_ℚ (coefficient row.terms j); bound = neg_ℚ (whole_ℚ row.bound) }

pub halves_first : (row : LpRow) (rows : List LpRow) (k : ℕ) → k < length (halves_of row) → get_or (halves (row ∷ rows)) k none_half ≡ get_or (halves_of row) k none_half
unfolding halves halves_of
halves_first row rows k h = kind_first row.equal (up row) (back row) (halves rows) k h

pub halves_rest : (row : LpRow) (rows : List LpRow) (k : ℕ) → get_or (halves (row ∷ rows)) (length (halves_of row) + k) none_half ≡ get_or (halves rows) k none_half
unfolding halves halves_of
halves_rest row rows k = kind_rest row.equal (up row) (back row) (halves rows) k

-- ---- the numbers of the terms
zero_first : (x : ℚ) → zero_ℚ +ℚ x ≡ x
zero_first x = simp ring

blank_at : (n j : ℕ) → get_or (replicate n (pos 0)) j (pos 0) ≡ pos 0
blank_at n j = ⊎_elim (λ (l : j < n). get_or-replicate n j (pos 0) (pos 0) l) (λ (h : n ≤ j). get_or_past (replicate n (pos 0)) j (pos 0) (let long = length-replicate n (pos 0) in omega arith)) (low_or_high j n)

pub numbers_start : (n : ℕ) (terms : List (ℕ × ℤ)) (numbers : List ℤ) → numbers ≡ replicate n (pos 0) → NumbersSoFar n terms 0 numbers
numbers_start n terms numbers e = subst (NumbersSoFar n terms 0) (sym e) (record {
  long = length-replicate n (pos 0);
  small = λ j. let z = blank_at n j in omega (arith, ints);
  exact = λ j. ap (λ (z : ℤ). whole_ℚ z +ℚ coefficient terms j) (blank_at n j) ∙ zero_first (coefficient terms j);
  fresh = λ j. inl (blank_at n j);
})

pub numbers_more : (n : ℕ) (terms : List (ℕ × ℤ)) (i : ℕ) (numbers : List ℤ) (t : ℕ × ℤ) → i < length terms → t ≡ get_or terms i t → All (IsTerm n) terms → AllPairs (λ s t. s.0 ≢ t.0) terms → NumbersSoFar n terms i numbers → NumbersSoFar n terms (i + 1) (set numbers t.0 t.1)
numbers_more n terms i numbers t hi is all apart h =
    let e : suc i ≡ i + 1 = omega arith in
    let term = subst (IsTerm n) (sym is) (all i t hi) in
    let long = h.long in
    let inside : t.0 < length numbers = (let c = term.column in omega arith) in
    let cut : drop i terms ≡ t ∷ drop (i + 1) terms = drop-cons terms i t hi ∙ ap (λ (x : ℕ × ℤ). x ∷ drop (suc i) terms) (sym is) ∙ ap (λ (k : ℕ). t ∷ drop k terms) e in
    let same = λ (k : ℕ) (hk : k < length terms). get_or_default terms k t (0, pos 0) hk in
    record {
      long = length-set numbers t.0 t.1 ∙ h.long;
      small = λ j. ⊎_elim
          (λ (at : j ≡ t.0). subst (λ (z : ℤ). unsigned_abs z ≤ 2 ^ 42) (sym (ap (λ (k : ℕ). get_or (set numbers t.0 t.1) k (pos 0)) at ∙ get_or-set_same numbers t.0 t.1 (pos 0) inside)) term.small)
          (λ (ne : j ≢ t.0). subst (λ (z : ℤ). unsigned_abs z ≤ 2 ^ 42) (sym (get_or-set_other numbers t.0 j t.1 (pos 0) ne)) (h.small j)) (cases_eq j t.0);
      exact = λ j. ⊎_elim
          (λ (at : j ≡ t.0).
          let old : get_or numbers j (pos 0) ≡ pos 0 = ⊎_elim (λ z. z) (λ (o : (k : ℕ) → i ≤ k → k < length terms → (get_or terms k (0, pos 0)).0 ≢ j). absurd (o i (omega arith) hi (ap (λ (x : ℕ × ℤ). x.0) (sym (same i hi) ∙ sym is) ∙ sym at))) (h.fresh j) in
          ap (λ (z : ℤ). whole_ℚ z +ℚ coefficient (drop (i + 1) terms) j) (ap (λ (k : ℕ). get_or (set numbers t.0 t.1) k (pos 0)) at ∙ get_or-set_same numbers t.0 t.1 (pos 0) inside)
          ∙ sym (zero_first (whole_ℚ t.1 +ℚ coefficient (drop (i + 1) terms) j))
          ∙ ap (λ (x : ℚ). zero_ℚ +ℚ x) (sym (term_here t (drop (i + 1) terms) j (sym at)))
          ∙ ap (λ (xs : List (ℕ × ℤ)). zero_ℚ +ℚ coefficient xs j) (sym cut)
          ∙ ap (λ (z : ℤ). whole_ℚ z +ℚ coefficient (drop i terms) j) (sym old)
          ∙ h.exact j)
          (λ (ne : j ≢ t.0).
          ap (λ (z : ℤ). whole_ℚ z +ℚ coefficient (drop (i + 1) terms) j) (get_or-set_other numbers t.0 j t.1 (pos 0) ne)
          ∙ ap (λ (x : ℚ). whole_ℚ (get_or numbers j (pos 0)) +ℚ x) (sym (term_off t (drop (i + 1) terms) j (λ at. ne (sym at))))
          ∙ ap (λ (xs : List (ℕ × ℤ)). whole_ℚ (get_or numbers j (pos 0)) +ℚ coefficient xs j) (sym cut)
          ∙ h.exact j) (cases_eq j t.0);
      fresh = λ j. ⊎_elim
          (λ (at : j ≡ t.0). inr (λ k low hk e. apart i k t (omega arith) hk (ap (λ (x : ℕ × ℤ). x.0) (sym is) ∙ sym at ∙ sym e ∙ ap (λ (x : ℕ × ℤ). x.0) (sym (same k hk)))))
          (λ (ne : j ≢ t.0). ⊎_elim
          (λ (z : get_or numbers j (pos 0) ≡ pos 0). inl (get_or-set_other numbers t.0 j t.1 (pos 0) ne ∙ z))
          (λ (o : (k : ℕ) → i ≤ k → k < length terms → (get_or terms k (0, pos 0)).0 ≢ j). inr (λ k low hk. o k (omega arith) hk)) (h.fresh j)) (cases_eq j t.0);
    }

pub numbers_end : (n : ℕ) (terms : List (ℕ × ℤ)) (i : ℕ) (numbers : List ℤ) → length terms ≤ i → NumbersSoFar n terms i numbers → AreNumbers n terms numbers
numbers_end n terms i numbers h s = record {
  long = s.long;
  small = λ k d l. subst (λ (z : ℤ). unsigned_abs z ≤ 2 ^ 42) (get_or_default numbers k (pos 0) d l) (s.small k);
  exact = λ j l. last (whole_ℚ (get_or numbers j (pos 0))) ∙ ap (λ (x : ℚ). whole_ℚ (get_or numbers j (pos 0)) +ℚ x) (sym (coefficient_none j)) ∙ ap (λ (xs : List (ℕ × ℤ)). whole_ℚ (get_or numbers j (pos 0)) +ℚ coefficient xs j) (sym (drop_all i terms h)) ∙ s.exact j;
}
  where
    last : (x : ℚ) → x ≡ x +ℚ zero_ℚ
    last x = simp ring

-- ---- the shift
counts : List (ℤ × ℤ) → ℕ
counts columns = count_by (λ (box : ℤ × ℤ). not (unsigned_abs box.0 == 0)) columns

pub shift_start : (numbers : List ℤ) (columns : List (ℤ × ℤ)) → ShiftSoFar numbers columns 0 (pos 0)
unfolding total
shift_start numbers columns = record { sum = refl; small = omega arith }

pub product_small : (a b : ℤ) → unsigned_abs a ≤ 2 ^ 42 → unsigned_abs b ≤ 2 ^ 31 → unsigned_abs (a *ℤ b) ≤ 2 ^ 73
product_small a b ha hb =
    let one : unsigned_abs a * unsigned_abs b ≤ 2 ^ 42 * unsigned_abs b = mul-le-mul_right (unsigned_abs b) ha in
    let two : 2 ^ 42 * unsigned_abs b ≤ 2 ^ 42 * 2 ^ 31 = mul-le-mul_left (2 ^ 42) hb in
    let e = unsigned_abs-mul a b in
    omega arith

product_none : (a b : ℤ) → unsigned_abs b ≡ 0 → unsigned_abs (a *ℤ b) ≡ 0
product_none a b h = unsigned_abs-mul a b ∙ ap (λ (n : ℕ). unsigned_abs a * n) h ∙ omega arith

test_zero : (n : ℕ) → not (n == 0) ≡ false → n ≡ 0
test_zero n e = grind (arith, nat_tests)

sum_cons : (f : ℤ × ℤ → ℕ) (box : ℤ × ℤ) (rest : List (ℤ × ℤ)) → sum_by f (box ∷ rest) ≡ f box + sum_by f rest
sum_cons f box rest = sum_by-cons f box rest

count_yes : (box : ℤ × ℤ) (rest : List (ℤ × ℤ)) → not (unsigned_abs box.0 == 0) ≡ true → count_by (λ (b : ℤ × ℤ). not (unsigned_abs b.0 == 0)) (box ∷ rest) ≡ suc (count_by (λ (b : ℤ × ℤ). not (unsigned_abs b.0 == 0)) rest)
count_yes box rest e = sum_cons (λ (b : ℤ × ℤ). cond (not (unsigned_abs b.0 == 0)) 1 0) box rest ∙ ap (λ (t : Bool). cond t 1 0 + count_by (λ (b : ℤ × ℤ). not (unsigned_abs b.0 == 0)) rest) e ∙ omega arith

count_no : (box : ℤ × ℤ) (rest : List (ℤ × ℤ)) → not (unsigned_abs box.0 == 0) ≡ false → count_by (λ (b : ℤ × ℤ). not (unsigned_abs b.0 == 0)) (box ∷ rest) ≡ count_by (λ (b : ℤ × ℤ). not (unsigned_abs b.0 == 0)) rest
count_no box rest e = sum_cons (λ (b : ℤ × ℤ). cond (not (unsigned_abs b.0 == 0)) 1 0) box rest ∙ ap (λ (t : Bool). cond t 1 0 + count_by (λ (b : ℤ × ℤ). not (unsigned_abs b.0 == 0)) rest) e ∙ omega arith

count_more : (box : ℤ × ℤ) (rest : List (ℤ × ℤ)) → (n : ℕ) → (n ≤ 2 ^ 73) → (unsigned_abs box.0 ≡ 0 → n ≡ 0) → n + 2 ^ 73 * count_by (λ (b : ℤ × ℤ). not (unsigned_abs b.0 == 0)) rest ≤ 2 ^ 73 * count_by (λ (b : ℤ × ℤ). not (unsigned_abs b.0 == 0)) (box ∷ rest)
count_more box rest n small none = by_test (not (unsigned_abs box.0 == 0)) refl
  where
    by_test : (t : Bool) → not (unsigned_abs box.0 == 0) ≡ t → n + 2 ^ 73 * count_by (λ (b : ℤ × ℤ). not (unsigned_abs b.0 == 0)) rest ≤ 2 ^ 73 * count_by (λ (b : ℤ × ℤ). not (unsigned_abs b.0 == 0)) (box ∷ rest)
    by_test true e = let c = count_yes box rest e in omega arith
    by_test false e = let c = count_no box rest e in let z = none (test_zero (unsigned_abs box.0) e) in omega arith

pub shift_more : (numbers : List ℤ) (columns : List (ℤ × ℤ)) (j : ℕ) (shift next : ℤ) → j < length columns → unsigned_abs (get_or numbers j (pos 0)) ≤ 2 ^ 42 → unsigned_abs (get_or columns j (pos 0, pos 0)).0 ≤ 2 ^ 31 → next ≡ shift +ℤ get_or numbers j (pos 0) *ℤ (get_or columns j (pos 0, pos 0)).0 → ShiftSoFar numbers columns j shift → ShiftSoFar numbers columns (j + 1) next
unfolding total
shift_more numbers columns j shift next hj hn hc is h =
    let e : j + 1 ≡ suc j = omega arith in
    let a = get_or numbers j (pos 0) in
    let b = (get_or columns j (pos 0, pos 0)).0 in
    let cut : drop j columns ≡ get_or columns j (pos 0, pos 0) ∷ drop (j + 1) columns = drop-cons columns j (pos 0, pos 0) hj ∙ ap (λ (k : ℕ). get_or columns j (pos 0, pos 0) ∷ drop k columns) (sym e) in
    let counted = ap (λ (xs : List (ℤ × ℤ)). count_by (λ (box : ℤ × ℤ). not (unsigned_abs box.0 == 0)) xs) cut in
    let more = count_more (get_or columns j (pos 0, pos 0)) (drop (j + 1) columns) (unsigned_abs (a *ℤ b)) (product_small a b hn hc) (product_none a b) in
    let was = h.small in
    record {
      sum = ap (λ (z : ℤ). whole_ℚ z) is ∙ sym (whole_sum shift (a *ℤ b)) ∙ ap (λ (x : ℚ). x +ℚ whole_ℚ (a *ℤ b)) h.sum ∙ ap (λ (x : ℚ). total j (λ k. whole_ℚ (get_or numbers k (pos 0)) *ℚ whole_ℚ (get_or columns k (pos 0, pos 0)).0) +ℚ x) (sym (whole_product a b)) ∙ ap (λ (m : ℕ). total m (λ k. whole_ℚ (get_or numbers k (pos 0)) *ℚ whole_ℚ (get_or columns k (pos 0, pos 0)).0)) (sym e);
      small = let s = abs_sum shift (a *ℤ b) in let n = ap unsigned_abs is in omega arith;
    }
  where
    abs_sum : (x y : ℤ) → unsigned_abs (x +ℤ y) ≤ unsigned_abs x + unsigned_abs y
    abs_sum x y = omega (arith, ints)

pub shift_small : (numbers : List ℤ) (columns : List (ℤ × ℤ)) (j : ℕ) (shift : ℤ) → count_by (λ (box : ℤ × ℤ). not (unsigned_abs box.0 == 0)) columns < 2 ^ 20 → ShiftSoFar numbers columns j shift → unsigned_abs shift ≤ 2 ^ 93
shift_small numbers columns j shift few h = let s = h.small in omega arith

pub shift_end : (numbers : List ℤ) (columns : List (ℤ × ℤ)) (j : ℕ) (shift : ℤ) → j ≡ length columns → ShiftSoFar numbers columns j shift → whole_ℚ shift ≡ shift_total numbers columns
shift_end numbers columns j shift e h = h.sum ∙ ap (λ (m : ℕ). total m (λ k. whole_ℚ (get_or numbers k (pos 0)) *ℚ whole_ℚ (get_or columns k (pos 0, pos 0)).0)) e

-- ---- one row of cells
pub written_start : (old : List Frac) (s : ℕ) (numbers : List ℤ) (turned : Bool) → WrittenSoFar old old s numbers turned 0
written_start old s numbers turned = record { long = refl; entries = λ k l. absurd (omega arith); before = λ k l. refl; after = λ k l. refl }

pub written_more : (old new : List Frac) (s : ℕ) (numbers : List ℤ) (turned : Bool) (j : ℕ) (x : Frac) → s + j < length new → value_of x ≡ signed turned (whole_ℚ (get_or numbers j (pos 0))) → WrittenSoFar old new s numbers turned j → WrittenSoFar old (set new (s + j) x) s numbers turned (j + 1)
written_more old new s numbers turned j x inside is h = record {
  long = length-set new (s + j) x ∙ h.long;
  entries = λ k l. ⊎_elim
      (λ (e : k ≡ j). subst (λ (i : ℕ). number_at (set new (s + j) x) (s + i) ≡ signed turned (whole_ℚ (get_or numbers i (pos 0)))) (sym e) (number_at-set_same new (s + j) x inside ∙ is))
      (λ (ne : k ≢ j). number_at-set_other new (s + j) x (s + k) (omega arith) ∙ h.entries k (omega arith)) (cases_eq k j);
  before = λ k l. number_at-set_other new (s + j) x k (omega arith) ∙ h.before k l;
  after = λ k l. number_at-set_other new (s + j) x k (omega arith) ∙ h.after k (omega arith);
}

pub written_end : (old new : List Frac) (s : ℕ) (numbers : List ℤ) (constant : ℤ) (turned : Bool) (j : ℕ) (x : Frac) → j ≡ length numbers → s + length numbers < length new → value_of x ≡ signed turned (whole_ℚ constant) → WrittenSoFar old new s numbers turned j → IsRowWritten old (set new (s + length numbers) x) s numbers constant turned
written_end old new s numbers constant turned j x e inside is h = record {
  long = length-set new (s + length numbers) x ∙ h.long;
  entries = λ k l. number_at-set_other new (s + length numbers) x (s + k) (omega arith) ∙ h.entries k (omega arith);
  constant = number_at-set_same new (s + length numbers) x inside ∙ is;
  before = λ k l. number_at-set_other new (s + length numbers) x k (omega arith) ∙ h.before k l;
  after = λ k l. number_at-set_other new (s + length numbers) x k (omega arith) ∙ h.after k (omega arith);
}

pub turned_whole : (t : Bool) (z : ℤ) (x : Frac) → t ≡ true → value_of x ≡ whole_ℚ (neg_ℤ z) → value_of x ≡ signed t (whole_ℚ z)
turned_whole true z x t e = e ∙ sym (neg_ℚ-fraction z 1 (omega arith))
turned_whole false z x t e = absurd (cc)

-- ---- the halves of a row
-- what a written row is as a half's
pub half_written : (p : Program) (old new : List Frac) (s : ℕ) (numbers : List ℤ) (constant : ℤ) (turned : Bool) (half : Half) → length numbers ≡ column_count p → ((j : ℕ) → j < column_count p → signed turned (whole_ℚ (get_or numbers j (pos 0))) ≡ half.coefficient j) → signed turned (whole_ℚ constant) ≡ total (column_count p) (λ j. half.coefficient j *ℚ low p j) -ℚ half.bound → IsRowWritten old new s numbers constant turned → IsHalfAt p new s half
half_written p old new s numbers constant turned half long coefficients last r j h = ⊎_elim
    (λ (l : j < column_count p). r.entries j (omega arith) ∙ coefficients j l ∙ sym (affine_low (column_count p) half.coefficient (total (column_count p) (λ j. half.coefficient j *ℚ low p j) -ℚ half.bound) j l))
    (λ (g : column_count p ≤ j).
    let e : j ≡ length numbers = omega arith in
    ap (λ (k : ℕ). number_at new (s + k)) e ∙ r.constant ∙ last ∙ sym (affine_at (column_count p) half.coefficient (total (column_count p) (λ j. half.coefficient j *ℚ low p j) -ℚ half.bound) j (omega arith)))
    (low_or_high j (column_count p))

pub row_shift : (p : Program) (row : LpRow) (numbers : List ℤ) (shift constant : ℤ) → AreNumbers (column_count p) row.terms numbers → whole_ℚ shift ≡ shift_total numbers p.columns → whole_ℚ constant ≡ whole_ℚ shift -ℚ whole_ℚ row.bound → whole_ℚ constant ≡ total (column_count p) (λ j. coefficient row.terms j *ℚ low p j) -ℚ whole_ℚ row.bound
unfolding low
row_shift p row numbers shift constant n sum is = is ∙ ap (λ (x : ℚ). x -ℚ whole_ℚ row.bound) (sum ∙ total_same (column_count p) (λ j. whole_ℚ (get_or numbers j (pos 0)) *ℚ whole_ℚ (get_or p.columns j (pos 0, pos 0)).0) (λ j. coefficient row.terms j *ℚ whole_ℚ (get_or p.columns j (pos 0, pos 0)).0) (λ j l. ap (λ (x : ℚ). x *ℚ whole_ℚ (get_or p.columns j (pos 0, pos 0)).0) (n.exact j l)))

pub turned_shift : (n : ℕ) (a l : ℕ → ℚ) (b c : ℚ) → c ≡ total n (λ j. a j *ℚ l j) -ℚ b → neg_ℚ c ≡ total n (λ j. neg_ℚ (a j) *ℚ l j) -ℚ neg_ℚ b
turned_shift n a l b c e = ap neg_ℚ e ∙ spread (total n (λ j. a j *ℚ l j)) b ∙ ap (λ (x : ℚ). x -ℚ neg_ℚ b) (sym (total_same n (λ j. neg_ℚ (a j) *ℚ l j) (λ j. neg_ℚ one_ℚ *ℚ (a j *ℚ l j)) (λ j h. turn (a j) (l j)) ∙ total-scaled n (neg_ℚ one_ℚ) (λ j. a j *ℚ l j)))
  where
    spread : (s b : ℚ) → neg_ℚ (s -ℚ b) ≡ neg_ℚ one_ℚ *ℚ s -ℚ neg_ℚ b
    spread s b = simp ring

    turn : (a l : ℚ) → neg_ℚ a *ℚ l ≡ neg_ℚ one_ℚ *ℚ (a *ℚ l)
    turn a l = simp ring

pub whole_difference : (a b c : ℤ) → c ≡ a +ℤ neg_ℤ b → whole_ℚ c ≡ whole_ℚ a -ℚ whole_ℚ b
whole_difference a b c e = ap (λ (z : ℤ). whole_ℚ z) e ∙ sym (whole_sum a (neg_ℤ b)) ∙ ap (λ (x : ℚ). whole_ℚ a +ℚ x) (sym (neg_ℚ-fraction b 1 (omega arith)))

one_half_list : (row : LpRow) → row.equal ≡ false → halves_of row ≡ up row ∷ []
unfolding halves_of
one_half_list row e = rw e refl

two_half_list : (row : LpRow) → row.equal ≡ true → halves_of row ≡ up row ∷ back row ∷ []
unfolding halves_of
two_half_list row e = rw e refl

pub written_one : (p : Program) (row : LpRow) (old new : List Frac) (s : ℕ) (numbers : List ℤ) (constant : ℤ) → row.equal ≡ false → AreNumbers (column_count p) row.terms numbers → whole_ℚ constant ≡ total (column_count p) (λ j. coefficient row.terms j *ℚ low p j) -ℚ whole_ℚ row.bound → IsRowWritten old new s numbers constant false → AreHalvesWritten p row old new s
written_one p row old new s numbers constant e n sum r =
    let list = one_half_list row e in
    let count = count_one row e in
    record {
      long = r.long;
      halves = λ k h j hj.
          let z : k ≡ 0 = omega arith in
          let at : s + k * suc (column_count p) ≡ s = ap (λ (q : ℕ). s + q * suc (column_count p)) z ∙ omega arith in
          let which : get_or (halves_of row) k none_half ≡ up row = ap (λ (q : ℕ). get_or (halves_of row) q none_half) z ∙ ap (λ (hs : List Half). get_or hs 0 none_half) list in
          ap (λ (q : ℕ). number_at new (q + j)) at ∙ half_written p old new s numbers constant false (up row) n.long n.exact sum r j hj ∙ ap (λ (x : Half). half_entry p x j) (sym which);
      before = r.before;
      after = λ k h. r.after k (let l = n.long in let c : length (halves_of row) * suc (column_count p) ≡ suc (column_count p) = ap (λ (q : ℕ). q * suc (column_count p)) count ∙ omega arith in omega arith);
    }

pub written_two : (p : Program) (row : LpRow) (old mid new : List Frac) (s next : ℕ) (numbers : List ℤ) (constant : ℤ) → row.equal ≡ true → next ≡ s + suc (column_count p) → AreNumbers (column_count p) row.terms numbers → whole_ℚ constant ≡ total (column_count p) (λ j. coefficient row.terms j *ℚ low p j) -ℚ whole_ℚ row.bound → IsRowWritten old mid s numbers constant false → IsRowWritten mid new next numbers constant true → AreHalvesWritten p row old new s
written_two p row old mid new s next numbers constant e place n sum r q =
    let list = two_half_list row e in
    let count = count_two row e in
    let l = n.long in
    record {
      long = q.long ∙ r.long;
      halves = λ k h j hj. ⊎_elim
          (λ (z : k ≡ 0).
          let at : s + k * suc (column_count p) ≡ s = ap (λ (i : ℕ). s + i * suc (column_count p)) z ∙ omega arith in
          let which : get_or (halves_of row) k none_half ≡ up row = ap (λ (i : ℕ). get_or (halves_of row) i none_half) z ∙ ap (λ (hs : List Half). get_or hs 0 none_half) list in
          ap (λ (i : ℕ). number_at new (i + j)) at ∙ q.before (s + j) (omega arith) ∙ half_written p old mid s numbers constant false (up row) n.long n.exact sum r j hj ∙ ap (λ (x : Half). half_entry p x j) (sym which))
          (λ (nz : k ≢ 0).
          let o : k ≡ 1 = omega arith in
          let at : s + k * suc (column_count p) ≡ next = ap (λ (i : ℕ). s + i * suc (column_count p)) o ∙ omega arith in
          let which : get_or (halves_of row) k none_half ≡ back row = ap (λ (i : ℕ). get_or (halves_of row) i none_half) o ∙ ap (λ (hs : List Half). get_or hs 1 none_half) list in
          ap (λ (i : ℕ). number_at new (i + j)) at ∙ half_written p mid new next numbers constant true (back row) n.long (λ i hi. ap neg_ℚ (n.exact i hi)) (turned_shift (column_count p) (λ i. coefficient row.terms i) (low p) (whole_ℚ row.bound) (whole_ℚ constant) sum) q j hj ∙ ap (λ (x : Half). half_entry p x j) (sym which))
          (cases_eq k 0);
      before = λ k h. q.before k (omega arith) ∙ r.before k h;
      after = λ k h.
          let c : length (halves_of row) * suc (column_count p) ≡ 2 * suc (column_count p) = ap (λ (i : ℕ). i * suc (column_count p)) count in
          q.after k (omega arith) ∙ r.after k (omega arith);
    }

-- ---- all halves
pub halves_start : (p : Program) (old : List Frac) → HalvesSoFar p old old 0 0
halves_start p old = record { long = refl; count = omega arith; rest = λ k. let e : 0 + k ≡ k = omega arith in ap (half_at p) e; done = λ i h. absurd (omega arith); after = λ k h. refl }

pub halves_inside : (p : Program) (old new : List Frac) (i half : ℕ) (row : LpRow) → i < length p.rows → row ≡ get_or p.rows i row → HalvesSoFar p old new i half → half + length (halves_of row) ≤ half_count p
halves_inside p old new i half row hi is h =
    let cut = ap (λ (hs : List Half). length hs) (drop_halves p.rows i row hi is) in
    let more = halves_count row (drop (i + 1) p.rows) in
    let c = h.count in
    omega arith

pub halves_more : (p : Program) (old new newer : List Frac) (i half : ℕ) (row : LpRow) → i < length p.rows → row ≡ get_or p.rows i row → AreHalvesWritten p row new newer (half * suc (column_count p)) → HalvesSoFar p old new i half → HalvesSoFar p old newer (i + 1) (half + length (halves_of row))
halves_more p old new newer i half row hi is t h =
    let w = suc (column_count p) in
    let m = length (halves_of row) in
    let cut = drop_halves p.rows i row hi is in
    let count = ap (λ (hs : List Half). length hs) cut in
    let more = halves_count row (drop (i + 1) p.rows) in
    let c = h.count in
    record {
      long = t.long ∙ h.long;
      count = omega arith;
      rest = λ k. let e : half + m + k ≡ half + (m + k) = omega arith in ap (half_at p) e ∙ h.rest (m + k) ∙ ap (λ (hs : List Half). get_or hs (m + k) none_half) cut ∙ halves_rest row (drop (i + 1) p.rows) k;
      done = λ q hq j hj. ⊎_elim
          (λ (low : q < half). t.before (q * w + j) (let apart = rows_apart q half w low in omega arith) ∙ h.done q low j hj)
          (λ (high : half ≤ q).
          let k = q - half in
          let e : q ≡ half + k = omega arith in
          let place : q * w + j ≡ half * w + k * w + j = ap (λ (x : ℕ). x * w + j) e ∙ omega arith in
          let which : half_at p q ≡ get_or (halves_of row) k none_half = ap (half_at p) e ∙ h.rest k ∙ ap (λ (hs : List Half). get_or hs k none_half) cut ∙ halves_first row (drop (i + 1) p.rows) k (omega arith) in
          ap (λ (x : ℕ). number_at newer x) place ∙ t.halves k (omega arith) j hj ∙ ap (λ (x : Half). half_entry p x j) (sym which))
          (low_or_high q half);
      after = λ k l. t.after k (omega arith) ∙ h.after k (omega arith);
    }

pub halves_end : (p : Program) (old new : List Frac) (i half : ℕ) → length p.rows ≤ i → HalvesSoFar p old new i half → AreRowsWritten p old new
halves_end p old new i half hi h =
    let none = all_counted p.rows i hi in
    let c = h.count in
    let e : half ≡ half_count p = omega arith in
    record {
      long = h.long;
      halves = λ q l. h.done q (omega arith);
      after = λ k l. h.after k (subst (λ (x : ℕ). x * suc (column_count p) ≤ k) (sym e) l);
    }

-- ---- the ends
pub end_written : (old : List Frac) (s c : ℕ) (columns : List (ℤ × ℤ)) (x y : Frac) → s + length columns < length old → c < length columns → value_of x ≡ neg_ℚ one_ℚ → value_of y ≡ whole_ℚ (get_or columns c (pos 0, pos 0)).1 -ℚ whole_ℚ (get_or columns c (pos 0, pos 0)).0 → IsEndWritten old (set (set old (s + c) x) (s + length columns) y) s c columns
end_written old s c columns x y inside hc ex ey =
    let long = length-set old (s + c) x in
    record {
      long = length-set (set old (s + c) x) (s + length columns) y ∙ long;
      column = number_at-set_other (set old (s + c) x) (s + length columns) y (s + c) (omega arith) ∙ number_at-set_same old (s + c) x (omega arith) ∙ ex;
      constant = number_at-set_same (set old (s + c) x) (s + length columns) y (omega arith) ∙ ey;
      others = λ k a b. number_at-set_other (set old (s + c) x) (s + length columns) y k b ∙ number_at-set_other old (s + c) x k a;
    }

pub ends_start : (p : Program) (old : List Frac) → EndsSoFar p old old 0
ends_start p old = record { long = refl; ends = λ k j h. absurd (omega arith); before = λ k h. refl; after = λ k h. refl }

end_here : (k j : ℕ) → j ≡ k → (if j == k then neg_ℚ one_ℚ else zero_ℚ) ≡ neg_ℚ one_ℚ
end_here k j e = choose j k (neg_ℚ one_ℚ) zero_ℚ e

end_off : (k j : ℕ) → j ≢ k → (if j == k then neg_ℚ one_ℚ else zero_ℚ) ≡ zero_ℚ
end_off k j e = choose_not j k (neg_ℚ one_ℚ) zero_ℚ e

pub ends_more : (p : Program) (old new newer : List Frac) (i : ℕ) → i < column_count p → IsZeroFrom old (half_count p * suc (column_count p)) → IsEndWritten new newer ((half_count p + i) * suc (column_count p)) i p.columns → EndsSoFar p old new i → EndsSoFar p old newer (i + 1)
unfolding low high
ends_more p old new newer i hi blank t h =
    let n = column_count p in
    let w = suc n in
    let m = half_count p in
    let s = (m + i) * w in
    record {
      long = t.long ∙ h.long;
      ends = λ k j hk hj. ⊎_elim
          (λ (e : k ≡ i). subst (λ (x : ℕ). number_at newer ((m + x) * w + j) ≡ end_entry p x j) (sym e) (⊎_elim
          (λ (l : j < n). ⊎_elim
          (λ (at : j ≡ i). ap (λ (x : ℕ). number_at newer (s + x)) at ∙ t.column ∙ sym (affine_low n (λ q. if q == i then neg_ℚ one_ℚ else zero_ℚ) (high p i -ℚ low p i) j l ∙ end_here i j at))
          (λ (ne : j ≢ i). t.others (s + j) (omega arith) (omega arith) ∙ h.after (s + j) (omega arith) ∙ blank.zero (s + j) (let up = mul-le-mul_right w (le_sum m i) in omega arith) ∙ sym (affine_low n (λ q. if q == i then neg_ℚ one_ℚ else zero_ℚ) (high p i -ℚ low p i) j l ∙ end_off i j ne)) (cases_eq j i))
          (λ (g : n ≤ j).
          let at : j ≡ n = omega arith in
          ap (λ (x : ℕ). number_at newer (s + x)) at ∙ t.constant ∙ sym (affine_at n (λ q. if q == i then neg_ℚ one_ℚ else zero_ℚ) (high p i -ℚ low p i) j at))
          (low_or_high j n)))
          (λ (ne : k ≢ i).
          let apart = rows_apart (m + k) (m + i) w (omega arith) in
          t.others ((m + k) * w + j) (omega arith) (omega arith) ∙ h.ends k j (omega arith) hj) (cases_eq k i);
      before = λ k l. let up = mul-le-mul_right w (le_sum m i) in t.others k (omega arith) (omega arith) ∙ h.before k l;
      after = λ k l.
          let more : (m + (i + 1)) * w ≡ s + w = omega arith in
          t.others k (omega arith) (omega arith) ∙ h.after k (omega arith);
    }
  where
    le_sum : (m i : ℕ) → m ≤ m + i
    le_sum m i = omega arith

pub ends_end : (p : Program) (old new : List Frac) (i : ℕ) → i ≡ column_count p → EndsSoFar p old new i → AreEndsWritten p old new
ends_end p old new i e h = record {
  long = h.long;
  ends = λ k j hk hj. h.ends k j (omega arith) hj;
  before = h.before;
  after = λ k l. h.after k (subst (λ (x : ℕ). (half_count p + x) * suc (column_count p) ≤ k) (sym e) l);
}

pub some_halves : (row : LpRow) (n : ℕ) → suc n ≤ length (halves_of row) * suc n
some_halves row n = by_kind row.equal refl
  where
    by_kind : (e : Bool) → row.equal ≡ e → suc n ≤ length (halves_of row) * suc n
    by_kind true e = let c = ap (λ (k : ℕ). k * suc n) (count_two row e) in omega arith
    by_kind false e = let c = ap (λ (k : ℕ). k * suc n) (count_one row e) in omega arith

-- ---- all cells
pub cells_entries : (p : Program) (blank rows ends : List Frac) (new : List Frac) (numbers : List ℤ) (shift : ℤ) (start : ℕ) → start ≡ slack_count p * suc (column_count p) → length blank ≡ suc (slack_count p) * suc (column_count p) → length numbers ≡ column_count p → ((j : ℕ) → j < column_count p → whole_ℚ (get_or numbers j (pos 0)) ≡ cost p j) → whole_ℚ shift ≡ total (column_count p) (λ j. cost p j *ℚ low p j)
    → AreRowsWritten p blank rows → AreEndsWritten p rows ends → IsRowWritten ends new start numbers shift false → AreFirstCells p new
cells_entries p blank rows ends new numbers shift start place long count costs sum r e g =
    let n = column_count p in
    let w = suc n in
    let m = half_count p in
    record {
      long = g.long ∙ e.long ∙ r.long ∙ long;
      entries = λ i j hi hj. ⊎_elim
          (λ (low_i : i < m).
          let under = rows_apart i m w low_i in
          let more = mul-le-mul_right w (le_sum m n) in
          g.before (i * w + j) (omega arith) ∙ e.before (i * w + j) (omega arith) ∙ r.halves i low_i j hj ∙ sym (first_half p i j low_i))
          (λ (high_i : m ≤ i). ⊎_elim
          (λ (mid : i < slack_count p).
          let k = i - m in
          let at : i ≡ m + k = omega arith in
          let under = rows_apart i (slack_count p) w mid in
          g.before (i * w + j) (omega arith) ∙ ap (λ (x : ℕ). number_at ends (x * w + j)) at ∙ e.ends k j (omega arith) hj ∙ sym (ap (λ (x : ℕ). first_entry p x j) at ∙ first_end p k j (omega arith)))
          (λ (last : slack_count p ≤ i).
          let at : i ≡ slack_count p = omega arith in
          ap (λ (x : ℕ). number_at new (x * w + j)) at ∙ ap (λ (x : ℕ). number_at new (x + j)) (sym place) ∙ ⊎_elim
          (λ (l : j < n). g.entries j (omega arith) ∙ costs j l ∙ sym (first_goal p i j at ∙ affine_low n (cost p) (total n (λ q. cost p q *ℚ low p q)) j l))
          (λ (h : n ≤ j). let end : j ≡ length numbers = omega arith in ap (λ (x : ℕ). number_at new (start + x)) end ∙ g.constant ∙ sum ∙ sym (first_goal p i j at ∙ affine_at n (cost p) (total n (λ q. cost p q *ℚ low p q)) j (omega arith)))
          (low_or_high j n))
          (low_or_high i (slack_count p)))
          (low_or_high i m);
    }
  where
    le_sum : (m n : ℕ) → m ≤ m + n
    le_sum m n = omega arith

pub cost_numbers : (p : Program) (j : ℕ) → whole_ℚ (get_or p.cost j (pos 0)) ≡ cost p j
unfolding cost
cost_numbers p j = refl

pub cost_shift : (p : Program) (shift : ℤ) → whole_ℚ shift ≡ shift_total p.cost p.columns → whole_ℚ shift ≡ total (column_count p) (λ j. cost p j *ℚ low p j)
unfolding cost low
cost_shift p shift e = e

-- ---- the table
pub first_dictionary : (p : Program) (g k : ℕ) (cells : List Frac) (basic nonbasic : List ℕ) → g ≡ slack_count p → k ≡ column_count p → AreFirstCells p cells → IsCounting basic (column_count p) (number_count p) → IsCounting nonbasic 0 (column_count p)
    → dictionary (suc g) (suc k) (λ i. slice_index_or basic i 0) (λ j. slice_index_or (set nonbasic (column_count p) (suc (number_count p))) j 0) (cell_entry (suc g) (suc k) cells) ≡ first p
unfolding first
first_dictionary p g k cells basic nonbasic eg ek c b n =
    ap (λ (x : ℕ). dictionary (suc x) (suc k) (λ i. slice_index_or basic i 0) (λ j. slice_index_or (set nonbasic (column_count p) (suc (number_count p))) j 0) (cell_entry (suc x) (suc k) cells)) eg
    ∙ ap (λ (x : ℕ). dictionary (suc (slack_count p)) (suc x) (λ i. slice_index_or basic i 0) (λ j. slice_index_or (set nonbasic (column_count p) (suc (number_count p))) j 0) (cell_entry (suc (slack_count p)) (suc x) cells)) ek
    ∙ same_dictionary (suc (slack_count p)) (suc (column_count p)) (λ i. slice_index_or basic i 0) (λ i. if nat_lt i (suc (slack_count p)) then column_count p + i else 0) (λ j. slice_index_or (set nonbasic (column_count p) (suc (number_count p))) j 0) (λ j. if nat_lt j (column_count p) then j else (if j == column_count p then suc (number_count p) else 0)) (cell_entry (suc (slack_count p)) (suc (column_count p)) cells) (first_entry p)
    (fun_ext (λ i. ⊎_elim
    (λ (l : i < suc (slack_count p)). b.exact i (let x = b.long in omega arith) ∙ sym (inside_rows i (slack_count p) (column_count p) l))
    (λ (h : suc (slack_count p) ≤ i). get_or_past basic i 0 (let x = b.long in omega arith) ∙ sym (outside_rows i (slack_count p) (column_count p) h))
    (low_or_high i (suc (slack_count p)))))
    (fun_ext (λ j. ⊎_elim
    (λ (l : j < column_count p). get_or-set_other nonbasic (column_count p) j (suc (number_count p)) 0 (omega arith) ∙ n.exact j (let x = n.long in omega arith) ∙ omega arith ∙ sym (a_column j (column_count p) (suc (number_count p)) l))
    (λ (h : column_count p ≤ j). ⊎_elim
    (λ (e : j ≡ column_count p). ap (λ (x : ℕ). get_or (set nonbasic (column_count p) (suc (number_count p))) x 0) e ∙ get_or-set_same nonbasic (column_count p) (suc (number_count p)) 0 (let x = n.long in omega arith) ∙ sym (the_constant j (column_count p) (suc (number_count p)) e))
    (λ (ne : j ≢ column_count p). get_or_past (set nonbasic (column_count p) (suc (number_count p))) j 0 (let x = n.long in let y = length-set nonbasic (column_count p) (suc (number_count p)) in omega arith) ∙ sym (past_constant j (column_count p) (suc (number_count p)) (omega arith)))
    (cases_eq j (column_count p)))
    (low_or_high j (column_count p))))
    (fun_ext (λ i. fun_ext (λ j. ⊎_elim
    (λ (hi : i < suc (slack_count p)). ⊎_elim
    (λ (hj : j < suc (column_count p)). cell_read (suc (slack_count p)) (suc (column_count p)) cells i j hi hj ∙ c.entries i j hi hj)
    (λ (hj : suc (column_count p) ≤ j). cell_right (suc (slack_count p)) (suc (column_count p)) cells i j hj ∙ sym (first_right p i j (omega arith)))
    (low_or_high j (suc (column_count p))))
    (λ (hi : suc (slack_count p) ≤ i). cell_under (suc (slack_count p)) (suc (column_count p)) cells i j hi ∙ sym (first_past p i j (omega arith)))
    (low_or_high i (suc (slack_count p))))))
  where
    inside_rows : (i s n : ℕ) → i < suc s → (if nat_lt i (suc s) then n + i else 0) ≡ n + i
    inside_rows i s n h = grind (arith, nat_tests)

    outside_rows : (i s n : ℕ) → suc s ≤ i → (if nat_lt i (suc s) then n + i else 0) ≡ 0
    outside_rows i s n h = grind (arith, nat_tests)

    a_column : (j n k : ℕ) → j < n → (if nat_lt j n then j else (if j == n then k else 0)) ≡ j
    a_column j n k h = grind (arith, nat_tests)

    the_constant : (j n k : ℕ) → j ≡ n → (if nat_lt j n then j else (if j == n then k else 0)) ≡ k
    the_constant j n k h = grind (arith, nat_tests)

    past_constant : (j n k : ℕ) → n < j → (if nat_lt j n then j else (if j == n then k else 0)) ≡ 0
    past_constant j n k h = grind (arith, nat_tests)

pub blank_zero : (n : ℕ) (f : Frac) (k : ℕ) → value_of f ≡ zero_ℚ → number_at (replicate n f) k ≡ zero_ℚ
blank_zero n f k e = ⊎_elim
    (λ (l : k < n). number_read (replicate n f) k f (let long = length-replicate n f in omega arith) (sym (get_or-replicate n k f f l)) ∙ e)
    (λ (h : n ≤ k). number_past (replicate n f) k (let long = length-replicate n f in omega arith))
    (low_or_high k n)

pub rows_zero : (p : Program) (blank rows : List Frac) → ((k : ℕ) → number_at blank k ≡ zero_ℚ) → AreRowsWritten p blank rows → IsZeroFrom rows (half_count p * suc (column_count p))
rows_zero p blank rows z r = record { zero = λ k l. r.after k l ∙ z k }
