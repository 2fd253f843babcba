-- The steps of a pivot on the cells of a table.
use Rattle.std.proofs.Common.{◌≡◌, ℕ, suc, ◌<◌, ◌≤◌, ◌≢◌, ◌+◌, ◌*◌, List, length, sym, ap, ◌∙◌, arith, refl, subst, inl, inr, set, get_or, get_or-set_same, get_or-set_other}
use Rattle.std.specs.Prelude.{◌⊎◌, slice_index_or}
use Rattle.std.proofs.Math.ListN.{length-set}
use Rattle.std.proofs.lemmas.List.{get_or_past}
use Rattle.std.proofs.lemmas.Bool.{cases_eq, cases_order}
use Rattle.std.proofs.lemmas.Bool.Decides.{nat_tests}
use Rattle.std.proofs.Math.Logic.{⊎_elim}
use Rattle.std.proofs.Math.Path.{fun_ext}
use Rattle.sm_frac.specs.Rational.{ℚ, ◌*ℚ◌, ◌-ℚ◌, neg_ℚ, zero_ℚ, one_ℚ, inverse}
use Rattle.sm_frac.proofs.RationalRing.{ring, one-*ℚ}
use Rattle.sm_frac.specs.Frac.{value_of}
use Rattle.sm_frac.specs.Passes.{Passes}
use Rattle.sm_frac.specs.declared.fraction.Frac.{Frac}
use Rattle.sm_frac.specs.declared.operation.Op.{Op}
use Rattle.sm_frac.specs.declared.operation.RangePassed.{RangePassed}
use Rattle.sm_frac.specs.declared.operation.Op.TheVariants.{Plus, Minus, Times, Over, Lcm}
use Rattle.sm_certificate.specs.Numbers.{number_at}
use Rattle.sm_lp.specs.Dictionary.{Dictionary, pivot, pivot_entry, replaced}
use Rattle.sm_lp.specs.Steps.{dividend, quotient}
use Rattle.sm_lp.specs.Table.{cell_entry, IsEliminated, IsRowPassed, IsSubtracted, IsSubtractionPassed, IsRowSubtracted}
use Rattle.sm_certificate.specs.Fine.{IsFine}
use Rattle.sm_lp.specs.Moved.{AreQuotients, IsPassedMove, AreEliminated, IsSomeRowPassed, IsTurnedRow}
use Rattle.sm_lp.proofs.CellLemmas.{cell_read, cell_right, cell_under, rows_apart}
use Rattle.sm_certificate.proofs.FineLemmas.{fine_of, fine_moved, times_zero_fine, zero_times_fine, minus_zero_fine}
use Rattle.sm_certificate.proofs.NumberLemmas.{number_at-set_same, number_at-set_other}
use Rattle.sm_lp.proofs.PivotLemmas.{entry_pivot, entry_row, entry_column, entry_other, entry_under, entry_right, replaced_at, replaced_off, replaced_past}

pub dividend_here : (d : Dictionary) (r c j : ℕ) → j ≡ c → dividend d r c j ≡ one_ℚ
unfolding dividend
dividend_here d r c j e = grind (arith, nat_tests)

pub dividend_off : (d : Dictionary) (r c j : ℕ) → j ≢ c → dividend d r c j ≡ d.entry r j
unfolding dividend
dividend_off d r c j e = grind (arith, nat_tests)

-- ---- one place
minus_none : (x f q : ℚ) → q ≡ zero_ℚ → x ≡ x -ℚ f *ℚ q
minus_none x f q e = tidy x f ∙ ap (λ (z : ℚ). x -ℚ f *ℚ z) (sym e)
  where
    tidy : (x f : ℚ) → x ≡ x -ℚ f *ℚ zero_ℚ
    tidy x f = simp ring

product_none : (f q : ℚ) → q ≡ zero_ℚ → f *ℚ q ≡ zero_ℚ
product_none f q e = ap (λ (z : ℚ). f *ℚ z) e ∙ tidy f
  where
    tidy : (f : ℚ) → f *ℚ zero_ℚ ≡ zero_ℚ
    tidy f = simp ring

pub subtracted_none : (cells : List Frac) (place : ℕ) (f q : ℚ) → q ≡ zero_ℚ → IsSubtracted cells cells place f q
subtracted_none cells place f q e = record {
  long = refl;
  here = minus_none (number_at cells place) f q e;
  others = λ k ne. refl;
  product = zero_times_fine f q e;
  difference = minus_zero_fine (number_at cells place) (f *ℚ q) (product_none f q e);
}

pub subtracted_some : (cells : List Frac) (place : ℕ) (factor quotient product old new : Frac) → place < length cells → number_at cells place ≡ value_of old → value_of product ≡ value_of factor *ℚ value_of quotient → value_of new ≡ value_of old -ℚ value_of product → (Passes Times factor quotient → ⊥) → (Passes Minus old product → ⊥)
    → IsSubtracted cells (set cells place new) place (value_of factor) (value_of quotient)
subtracted_some cells place factor quotient product old new inside is_old is_product is_new times minus = record {
  long = length-set cells place new;
  here = number_at-set_same cells place new inside ∙ is_new ∙ ap (λ (x : ℚ). value_of old -ℚ x) is_product ∙ ap (λ (x : ℚ). x -ℚ value_of factor *ℚ value_of quotient) (sym is_old);
  others = λ k ne. number_at-set_other cells place new k ne;
  product = fine_of Times factor quotient times;
  difference = fine_moved Minus (value_of old) (value_of product) (number_at cells place) (value_of factor *ℚ value_of quotient) (fine_of Minus old product minus) (sym is_old) is_product;
}

pub product_passed : (old : ℚ) (factor quotient : Frac) (e : RangePassed) → e ≡ record { op = Times; left = factor; right = quotient } → Passes Times factor quotient → IsSubtractionPassed old (value_of factor) (value_of quotient) e.op e.left e.right
product_passed old factor quotient e is p = subst (λ (x : RangePassed). IsSubtractionPassed old (value_of factor) (value_of quotient) x.op x.left x.right) (sym is) (record { step = (refl, refl); passes = p })

pub difference_passed : (was : ℚ) (old factor quotient product : Frac) (e : RangePassed) → was ≡ value_of old → value_of product ≡ value_of factor *ℚ value_of quotient → e ≡ record { op = Minus; left = old; right = product } → Passes Minus old product → IsSubtractionPassed was (value_of factor) (value_of quotient) e.op e.left e.right
difference_passed was old factor quotient product e is_old is_product is p = subst (λ (x : RangePassed). IsSubtractionPassed was (value_of factor) (value_of quotient) x.op x.left x.right) (sym is) (record { step = (sym is_old, is_product); passes = p })

-- ---- one row
pub record RowSoFar (old new : List Frac) (factor : ℚ) (quotients : List Frac) (s c j : ℕ) : Type 0 where
  pub long : length new ≡ length old
  pub done : (k : ℕ) → k < j → k ≢ c → number_at new (s + k) ≡ number_at old (s + k) -ℚ factor *ℚ number_at quotients k
  pub own : number_at new (s + c) ≡ number_at old (s + c)
  pub before : (k : ℕ) → k < s → number_at new k ≡ number_at old k
  pub after : (k : ℕ) → s + j ≤ k → number_at new k ≡ number_at old k
  pub products : (k : ℕ) → k < j → k ≢ c → IsFine Times factor (number_at quotients k)
  pub differences : (k : ℕ) → k < j → k ≢ c → IsFine Minus (number_at old (s + k)) (factor *ℚ number_at quotients k)

pub row_start : (old : List Frac) (factor : ℚ) (quotients : List Frac) (s c : ℕ) → RowSoFar old old factor quotients s c 0
row_start old factor quotients s c = record {
  long = refl;
  done = λ k l. absurd (omega arith);
  own = refl;
  before = λ k l. refl;
  after = λ k l. refl;
  products = λ k l. absurd (omega arith);
  differences = λ k l. absurd (omega arith);
}

pub row_skip : (old new : List Frac) (factor : ℚ) (quotients : List Frac) (s c j : ℕ) → j ≡ c → RowSoFar old new factor quotients s c j → RowSoFar old new factor quotients s c (j + 1)
row_skip old new factor quotients s c j e h = record {
  long = h.long;
  done = λ k l ne. h.done k (omega arith) ne;
  own = h.own;
  before = h.before;
  after = λ k l. h.after k (omega arith);
  products = λ k l ne. h.products k (omega arith) ne;
  differences = λ k l ne. h.differences k (omega arith) ne;
}

pub row_more : (old new newer : List Frac) (factor : ℚ) (quotients : List Frac) (s c j : ℕ) (q : ℚ) → j ≢ c → q ≡ number_at quotients j → IsSubtracted new newer (s + j) factor q → RowSoFar old new factor quotients s c j → RowSoFar old newer factor quotients s c (j + 1)
row_more old new newer factor quotients s c j q off eq t h =
    let was = h.after (s + j) (omega arith) in
    record {
      long = t.long ∙ h.long;
      done = λ k l ne. ⊎_elim
          (λ (e : k ≡ j). subst (λ (x : ℕ). number_at newer (s + x) ≡ number_at old (s + x) -ℚ factor *ℚ number_at quotients x) (sym e) (t.here ∙ ap (λ (x : ℚ). x -ℚ factor *ℚ q) was ∙ ap (λ (x : ℚ). number_at old (s + j) -ℚ factor *ℚ x) eq))
          (λ (o : k ≢ j). t.others (s + k) (omega arith) ∙ h.done k (omega arith) ne) (cases_eq k j);
      own = t.others (s + c) (omega arith) ∙ h.own;
      before = λ k l. t.others k (omega arith) ∙ h.before k l;
      after = λ k l. t.others k (omega arith) ∙ h.after k (omega arith);
      products = λ k l ne. ⊎_elim
          (λ (e : k ≡ j). subst (λ (x : ℕ). IsFine Times factor (number_at quotients x)) (sym e) (fine_moved Times factor q factor (number_at quotients j) t.product refl eq))
          (λ (o : k ≢ j). h.products k (omega arith) ne) (cases_eq k j);
      differences = λ k l ne. ⊎_elim
          (λ (e : k ≡ j). subst (λ (x : ℕ). IsFine Minus (number_at old (s + x)) (factor *ℚ number_at quotients x)) (sym e) (fine_moved Minus (number_at new (s + j)) (factor *ℚ q) (number_at old (s + j)) (factor *ℚ number_at quotients j) t.difference was (ap (λ (x : ℚ). factor *ℚ x) eq)))
          (λ (o : k ≢ j). h.differences k (omega arith) ne) (cases_eq k j);
    }

pub row_end : (old new : List Frac) (factor : ℚ) (quotients : List Frac) (s c j : ℕ) → length quotients ≤ j → j ≤ length quotients → RowSoFar old new factor quotients s c j → IsRowSubtracted old new factor quotients s c
row_end old new factor quotients s c j low high h = record {
  long = h.long;
  others = λ k l ne. h.done k (omega arith) ne;
  own = h.own;
  before = h.before;
  after = λ k l. h.after k (omega arith);
  products = λ k l ne. h.products k (omega arith) ne;
  differences = λ k l ne. h.differences k (omega arith) ne;
}

-- a place of the row that passed
pub place_passed : (op : Op) (old new : List Frac) (factor : ℚ) (quotients : List Frac) (s c j : ℕ) (q : ℚ) (left right : Frac) → j < length quotients → j ≢ c → factor ≡ number_at old (s + c) → q ≡ number_at quotients j → RowSoFar old new factor quotients s c j → IsSubtractionPassed (number_at new (s + j)) factor q op left right → IsRowPassed old quotients s c op left right
place_passed Times old new factor quotients s c j q left right inside off ef eq h p = record { step = (j, inside, p.step.0 ∙ ef, p.step.1 ∙ eq); passes = p.passes }
place_passed Minus old new factor quotients s c j q left right inside off ef eq h p = record { step = (j, inside, off, p.step.0 ∙ h.after (s + j) (omega arith), p.step.1 ∙ ap (λ (x : ℚ). factor *ℚ x) eq ∙ ap (λ (x : ℚ). x *ℚ number_at quotients j) ef); passes = p.passes }
place_passed Plus old new factor quotients s c j q left right inside off ef eq h p = absurd p.step
place_passed Over old new factor quotients s c j q left right inside off ef eq h p = absurd p.step
place_passed Lcm old new factor quotients s c j q left right inside off ef eq h p = absurd p.step

pub last_passed : (old quotients : List Frac) (s c : ℕ) (factor quotient : Frac) (e : RangePassed) → c < length quotients → value_of factor ≡ number_at old (s + c) → value_of quotient ≡ number_at quotients c → e ≡ record { op = Times; left = factor; right = quotient } → Passes Times factor quotient → IsRowPassed old quotients s c e.op e.left e.right
last_passed old quotients s c factor quotient e inside ef eq is p = subst (λ (x : RangePassed). IsRowPassed old quotients s c x.op x.left x.right) (sym is) (record { step = (c, inside, ef, eq); passes = p })

zero_factor : (f q : ℚ) → f ≡ zero_ℚ → f *ℚ q ≡ zero_ℚ
zero_factor f q e = ap (λ (z : ℚ). z *ℚ q) e ∙ tidy q
  where
    tidy : (q : ℚ) → zero_ℚ *ℚ q ≡ zero_ℚ
    tidy q = simp ring

minus_zero : (x y : ℚ) → y ≡ zero_ℚ → x ≡ x -ℚ y
minus_zero x y e = tidy x ∙ ap (λ (z : ℚ). x -ℚ z) (sym e)
  where
    tidy : (x : ℚ) → x ≡ x -ℚ zero_ℚ
    tidy x = simp ring

pub eliminated_none : (cells quotients : List Frac) (s c : ℕ) → number_at cells (s + c) ≡ zero_ℚ → IsEliminated cells cells quotients s c
eliminated_none cells quotients s c e = record {
  column = e ∙ sym (zero_factor (number_at cells (s + c)) (number_at quotients c) e);
  others = λ j l ne. minus_zero (number_at cells (s + j)) (number_at cells (s + c) *ℚ number_at quotients j) (zero_factor (number_at cells (s + c)) (number_at quotients j) e);
  before = λ k l. refl;
  after = λ k l. refl;
  products = λ j l. times_zero_fine (number_at cells (s + c)) (number_at quotients j) e;
  differences = λ j l ne. minus_zero_fine (number_at cells (s + j)) (number_at cells (s + c) *ℚ number_at quotients j) (zero_factor (number_at cells (s + c)) (number_at quotients j) e);
}

pub eliminated_some : (old new quotients : List Frac) (s c : ℕ) (factor quotient product : Frac) → s + length quotients ≤ length old → c < length quotients → value_of factor ≡ number_at old (s + c) → value_of quotient ≡ number_at quotients c → value_of product ≡ value_of factor *ℚ value_of quotient → (Passes Times factor quotient → ⊥) → IsRowSubtracted old new (value_of factor) quotients s c → IsEliminated old (set new (s + c) product) quotients s c
eliminated_some old new quotients s c factor quotient product inside hc ef eq ep never h =
    let same : value_of factor *ℚ value_of quotient ≡ number_at old (s + c) *ℚ number_at quotients c = ap (λ (x : ℚ). x *ℚ value_of quotient) ef ∙ ap (λ (x : ℚ). number_at old (s + c) *ℚ x) eq in
    let long = h.long in
    record {
      column = number_at-set_same new (s + c) product (omega arith) ∙ ep ∙ same;
      others = λ j l ne. number_at-set_other new (s + c) product (s + j) (omega arith) ∙ h.others j l ne ∙ ap (λ (x : ℚ). number_at old (s + j) -ℚ x *ℚ number_at quotients j) ef;
      before = λ k l. number_at-set_other new (s + c) product k (omega arith) ∙ h.before k l;
      after = λ k l. number_at-set_other new (s + c) product k (omega arith) ∙ h.after k l;
      products = λ j l. ⊎_elim
          (λ (e : j ≡ c). subst (λ (x : ℕ). IsFine Times (number_at old (s + c)) (number_at quotients x)) (sym e) (fine_moved Times (value_of factor) (value_of quotient) (number_at old (s + c)) (number_at quotients c) (fine_of Times factor quotient never) ef eq))
          (λ (ne : j ≢ c). fine_moved Times (value_of factor) (number_at quotients j) (number_at old (s + c)) (number_at quotients j) (h.products j l ne) ef refl) (cases_eq j c);
      differences = λ j l ne. fine_moved Minus (number_at old (s + j)) (value_of factor *ℚ number_at quotients j) (number_at old (s + j)) (number_at old (s + c) *ℚ number_at quotients j) (h.differences j l ne) refl (ap (λ (x : ℚ). x *ℚ number_at quotients j) ef);
    }

-- ---- all rows
pub record RowsSoFar (old new quotients : List Frac) (r c i : ℕ) : Type 0 where
  pub long : length new ≡ length old
  pub column : (k : ℕ) → k < i → k ≢ r → number_at new (k * length quotients + c) ≡ number_at old (k * length quotients + c) *ℚ number_at quotients c
  pub others : (k j : ℕ) → k < i → k ≢ r → j < length quotients → j ≢ c → number_at new (k * length quotients + j) ≡ number_at old (k * length quotients + j) -ℚ number_at old (k * length quotients + c) *ℚ number_at quotients j
  pub own : (j : ℕ) → j < length quotients → number_at new (r * length quotients + j) ≡ number_at old (r * length quotients + j)
  pub products : (k j : ℕ) → k < i → k ≢ r → j < length quotients → IsFine Times (number_at old (k * length quotients + c)) (number_at quotients j)
  pub differences : (k j : ℕ) → k < i → k ≢ r → j < length quotients → j ≢ c → IsFine Minus (number_at old (k * length quotients + j)) (number_at old (k * length quotients + c) *ℚ number_at quotients j)
  pub rest : (k : ℕ) → i * length quotients ≤ k → number_at new k ≡ number_at old k

pub rows_start : (old quotients : List Frac) (r c : ℕ) → RowsSoFar old old quotients r c 0
rows_start old quotients r c = record {
  long = refl;
  column = λ k l. absurd (omega arith);
  others = λ k j l. absurd (omega arith);
  own = λ j l. refl;
  products = λ k j l. absurd (omega arith);
  differences = λ k j l. absurd (omega arith);
  rest = λ k l. refl;
}

pub rows_skip : (old new quotients : List Frac) (r c i : ℕ) → i ≡ r → RowsSoFar old new quotients r c i → RowsSoFar old new quotients r c (i + 1)
rows_skip old new quotients r c i e h = record {
  long = h.long;
  column = λ k l ne. h.column k (omega arith) ne;
  others = λ k j l ne. h.others k j (omega arith) ne;
  own = h.own;
  products = λ k j l ne. h.products k j (omega arith) ne;
  differences = λ k j l ne. h.differences k j (omega arith) ne;
  rest = λ k l. h.rest k (omega arith);
}

pub rows_more : (old new newer quotients : List Frac) (r c i : ℕ) → c < length quotients → i ≢ r → length newer ≡ length new → IsEliminated new newer quotients (i * length quotients) c → RowsSoFar old new quotients r c i → RowsSoFar old newer quotients r c (i + 1)
rows_more old new newer quotients r c i hc off long e h =
    let w = length quotients in
    let was = λ (j : ℕ). h.rest (i * w + j) (omega arith) in
    let kept = λ (k j : ℕ) (l : k < i) (hj : j < w). e.before (k * w + j) (let apart = rows_apart k i w l in omega arith) in
    record {
      long = long ∙ h.long;
      column = λ k l ne. ⊎_elim
          (λ (at : k ≡ i). subst (λ (x : ℕ). number_at newer (x * w + c) ≡ number_at old (x * w + c) *ℚ number_at quotients c) (sym at) (e.column ∙ ap (λ (x : ℚ). x *ℚ number_at quotients c) (was c)))
          (λ (apart : k ≢ i). kept k c (omega arith) hc ∙ h.column k (omega arith) ne) (cases_eq k i);
      others = λ k j l ne hj nj. ⊎_elim
          (λ (at : k ≡ i). subst (λ (x : ℕ). number_at newer (x * w + j) ≡ number_at old (x * w + j) -ℚ number_at old (x * w + c) *ℚ number_at quotients j) (sym at) (e.others j hj nj ∙ ap (λ (x : ℚ). x -ℚ number_at new (i * w + c) *ℚ number_at quotients j) (was j) ∙ ap (λ (x : ℚ). number_at old (i * w + j) -ℚ x *ℚ number_at quotients j) (was c)))
          (λ (apart : k ≢ i). kept k j (omega arith) hj ∙ h.others k j (omega arith) ne hj nj) (cases_eq k i);
      own = λ j hj. ⊎_elim
          (λ (at : i ≡ r). absurd (off at))
          (λ o. ⊎_elim (λ (low : i < r). e.after (r * w + j) (let apart = rows_apart i r w low in omega arith) ∙ h.own j hj) (λ (high : r < i). kept r j high hj ∙ h.own j hj) o) (cases_order i r);
      products = λ k j l ne hj. ⊎_elim
          (λ (at : k ≡ i). subst (λ (x : ℕ). IsFine Times (number_at old (x * w + c)) (number_at quotients j)) (sym at) (fine_moved Times (number_at new (i * w + c)) (number_at quotients j) (number_at old (i * w + c)) (number_at quotients j) (e.products j hj) (was c) refl))
          (λ (apart : k ≢ i). h.products k j (omega arith) ne hj) (cases_eq k i);
      differences = λ k j l ne hj nj. ⊎_elim
          (λ (at : k ≡ i). subst (λ (x : ℕ). IsFine Minus (number_at old (x * w + j)) (number_at old (x * w + c) *ℚ number_at quotients j)) (sym at) (fine_moved Minus (number_at new (i * w + j)) (number_at new (i * w + c) *ℚ number_at quotients j) (number_at old (i * w + j)) (number_at old (i * w + c) *ℚ number_at quotients j) (e.differences j hj nj) (was j) (ap (λ (x : ℚ). x *ℚ number_at quotients j) (was c))))
          (λ (apart : k ≢ i). h.differences k j (omega arith) ne hj nj) (cases_eq k i);
      rest = λ k l. e.after k (omega arith) ∙ h.rest k (omega arith);
    }

pub rows_end : (old new quotients : List Frac) (h r c i : ℕ) → h ≤ i → RowsSoFar old new quotients r c i → AreEliminated old new quotients h r c
rows_end old new quotients h r c i low s = record {
  long = s.long;
  column = λ k l ne. s.column k (omega arith) ne;
  others = λ k j l ne hj nj. s.others k j (omega arith) ne hj nj;
  own = s.own;
  products = λ k j l ne hj. s.products k j (omega arith) ne hj;
  differences = λ k j l ne hj nj. s.differences k j (omega arith) ne hj nj;
}

pub row_passed : (op : Op) (old new quotients : List Frac) (h r c i : ℕ) (left right : Frac) → i < h → i ≢ r → RowsSoFar old new quotients r c i → IsRowPassed new quotients (i * length quotients) c op left right → IsSomeRowPassed old quotients h r c op left right
row_passed Times old new quotients h r c i left right hi off s p = record { row = i; inside = hi; other = off; passed = record { step = (p.step.0, p.step.1, p.step.2 ∙ s.rest (i * length quotients + c) (omega arith), p.step.3); passes = p.passes } }
row_passed Minus old new quotients h r c i left right hi off s p = record { row = i; inside = hi; other = off; passed = record { step = (p.step.0, p.step.1, p.step.2, p.step.3 ∙ s.rest (i * length quotients + p.step.0) (omega arith), p.step.4 ∙ ap (λ (x : ℚ). x *ℚ number_at quotients p.step.0) (s.rest (i * length quotients + c) (omega arith))); passes = p.passes } }
row_passed Plus old new quotients h r c i left right hi off s p = absurd p.step
row_passed Over old new quotients h r c i left right hi off s p = absurd p.step
row_passed Lcm old new quotients h r c i left right hi off s p = absurd p.step

-- ---- the row of the leaving number
pub record TurnedSoFar (old new quotients : List Frac) (s c j : ℕ) : Type 0 where
  pub long : length new ≡ length old
  pub column : c < j → number_at new (s + c) ≡ number_at quotients c
  pub others : (k : ℕ) → k < j → k ≢ c → number_at new (s + k) ≡ neg_ℚ (number_at quotients k)
  pub before : (k : ℕ) → k < s → number_at new k ≡ number_at old k
  pub after : (k : ℕ) → s + j ≤ k → number_at new k ≡ number_at old k

pub turned_start : (old quotients : List Frac) (s c : ℕ) → TurnedSoFar old old quotients s c 0
turned_start old quotients s c = record { long = refl; column = λ l. absurd (omega arith); others = λ k l. absurd (omega arith); before = λ k l. refl; after = λ k l. refl }

pub turned_more : (old new quotients : List Frac) (s c j : ℕ) (x : Frac) → s + j < length new → (j ≡ c → value_of x ≡ number_at quotients c) → (j ≢ c → value_of x ≡ neg_ℚ (number_at quotients j)) → TurnedSoFar old new quotients s c j → TurnedSoFar old (set new (s + j) x) quotients s c (j + 1)
turned_more old new quotients s c j x inside here off h = record {
  long = length-set new (s + j) x ∙ h.long;
  column = λ l. ⊎_elim
      (λ (e : j ≡ c). subst (λ (y : ℕ). number_at (set new (s + j) x) (s + y) ≡ number_at quotients c) e (number_at-set_same new (s + j) x inside ∙ here e))
      (λ (ne : j ≢ c). number_at-set_other new (s + j) x (s + c) (omega arith) ∙ h.column (omega arith)) (cases_eq j c);
  others = λ k l ne. ⊎_elim
      (λ (e : k ≡ j). subst (λ (y : ℕ). number_at (set new (s + j) x) (s + y) ≡ neg_ℚ (number_at quotients y)) (sym e) (number_at-set_same new (s + j) x inside ∙ off (λ at. ne (e ∙ at))))
      (λ (o : k ≢ j). number_at-set_other new (s + j) x (s + k) (omega arith) ∙ h.others k (omega arith) ne) (cases_eq k j);
  before = λ k l. number_at-set_other new (s + j) x k (omega arith) ∙ h.before k l;
  after = λ k l. number_at-set_other new (s + j) x k (omega arith) ∙ h.after k (omega arith);
}

pub turned_end : (old new quotients : List Frac) (s c j : ℕ) → length quotients ≤ j → j ≤ length quotients → TurnedSoFar old new quotients s c j → IsTurnedRow old new quotients s c
turned_end old new quotients s c j low high h = record {
  long = h.long;
  column = λ l. h.column (omega arith);
  others = λ k l ne. h.others k (omega arith) ne;
  before = h.before;
  after = λ k l. h.after k (omega arith);
}

-- ---- the whole pivot
low_or_high : (k i : ℕ) → (k < i) ⊎ (i ≤ k)
low_or_high k i = ⊎_elim (λ (e : k ≡ i). inr (omega arith)) (λ o. ⊎_elim (λ (l : k < i). inl l) (λ (l : i < k). inr (omega arith)) o) (cases_order k i)

module _ (h w : ℕ) (old mid new quotients : List Frac) (d : Dictionary) (r c : ℕ) (wide : length quotients ≡ w) (is_w : d.width ≡ w) (entries : d.entry ≡ cell_entry h w old) (hr : r < h) (hc : c < w) (q : AreQuotients d r c quotients) (e : AreEliminated old mid quotients h r c) (t : IsTurnedRow mid new quotients (r * w) c) where
  read : (i j : ℕ) → i < h → j < w → number_at old (i * w + j) ≡ d.entry i j
  read i j hi hj = sym (cell_read h w old i j hi hj) ∙ ap (λ (f : ℕ → ℕ → ℚ). f i j) (sym entries)

  quotient_here : number_at quotients c ≡ inverse (d.entry r c)
  quotient_here = q.exact c (omega arith) ∙ ap (λ (x : ℚ). x *ℚ inverse (d.entry r c)) (dividend_here d r c c refl) ∙ one-*ℚ (inverse (d.entry r c))

  quotient_off : (j : ℕ) → j < w → j ≢ c → number_at quotients j ≡ d.entry r j *ℚ inverse (d.entry r c)
  quotient_off j hj ne = q.exact j (omega arith) ∙ ap (λ (x : ℚ). x *ℚ inverse (d.entry r c)) (dividend_off d r c j ne)

  kept : (i j : ℕ) → i < h → j < w → i ≢ r → number_at new (i * w + j) ≡ number_at mid (i * w + j)
  kept i j hi hj ne = ⊎_elim (λ (at : i ≡ r). absurd (ne at))
      (λ o. ⊎_elim (λ (low : i < r). t.before (i * w + j) (let apart = rows_apart i r w low in omega arith)) (λ (high : r < i). t.after (i * w + j) (let apart = rows_apart r i w high in omega arith)) o) (cases_order i r)

  column_at : (i : ℕ) → i < h → i ≢ r → number_at mid (i * w + c) ≡ number_at old (i * w + c) *ℚ number_at quotients c
  column_at i hi ne = subst (λ (x : ℕ). number_at mid (i * x + c) ≡ number_at old (i * x + c) *ℚ number_at quotients c) wide (e.column i hi ne)

  other_at : (i j : ℕ) → i < h → j < w → i ≢ r → j ≢ c → number_at mid (i * w + j) ≡ number_at old (i * w + j) -ℚ number_at old (i * w + c) *ℚ number_at quotients j
  other_at i j hi hj ne nj = subst (λ (x : ℕ). number_at mid (i * x + j) ≡ number_at old (i * x + j) -ℚ number_at old (i * x + c) *ℚ number_at quotients j) wide (e.others i j hi ne (omega arith) nj)

  inside : (i j : ℕ) → i < h → j < w → number_at new (i * w + j) ≡ pivot_entry h w d.entry r c i j
  inside i j hi hj = ⊎_elim
      (λ (ei : i ≡ r). ⊎_elim
      (λ (ej : j ≡ c). ap (λ (x : ℕ). number_at new (x * w + j)) ei ∙ ap (λ (x : ℕ). number_at new (r * w + x)) ej ∙ t.column (omega arith) ∙ quotient_here ∙ sym (entry_pivot h w d.entry r c i j hi hj ei ej))
      (λ (nj : j ≢ c). ap (λ (x : ℕ). number_at new (x * w + j)) ei ∙ t.others j (omega arith) nj ∙ ap neg_ℚ (quotient_off j hj nj) ∙ sym (entry_row h w d.entry r c i j hi hj ei nj)) (cases_eq j c))
      (λ (ni : i ≢ r). ⊎_elim
      (λ (ej : j ≡ c). kept i j hi hj ni ∙ ap (λ (x : ℕ). number_at mid (i * w + x)) ej ∙ column_at i hi ni ∙ ap (λ (x : ℚ). x *ℚ number_at quotients c) (read i c hi hc) ∙ ap (λ (x : ℚ). d.entry i c *ℚ x) quotient_here ∙ sym (entry_column h w d.entry r c i j hi hj ni ej))
      (λ (nj : j ≢ c). kept i j hi hj ni ∙ other_at i j hi hj ni nj ∙ ap (λ (x : ℚ). x -ℚ number_at old (i * w + c) *ℚ number_at quotients j) (read i j hi hj) ∙ ap (λ (x : ℚ). d.entry i j -ℚ x *ℚ number_at quotients j) (read i c hi hc) ∙ ap (λ (x : ℚ). d.entry i j -ℚ d.entry i c *ℚ x) (quotient_off j hj nj) ∙ sym (entry_other h w d.entry r c i j hi hj ni nj)) (cases_eq j c))
      (cases_eq i r)

  at_place : (i j : ℕ) → cell_entry h w new i j ≡ pivot_entry h w d.entry r c i j
  at_place i j = ⊎_elim
      (λ (hi : i < h). ⊎_elim (λ (hj : j < w). cell_read h w new i j hi hj ∙ inside i j hi hj) (λ (hj : w ≤ j). cell_right h w new i j hj ∙ sym (entry_right h w d.entry r c i j hj)) (low_or_high j w))
      (λ (hi : h ≤ i). cell_under h w new i j hi ∙ sym (entry_under h w d.entry r c i j hi)) (low_or_high i h)

  pub pivot_cells : cell_entry h w new ≡ pivot_entry h w d.entry r c
  pivot_cells = fun_ext (λ i. fun_ext (λ j. at_place i j))

  pub move_stands : (op : Op) (left right : Frac) → IsPassedMove d r c op left right → d.height ≡ h → ⊥
  move_stands Over left right m eh = (q.fine m.step.0 m.step.1).fine left right m.step.2 m.step.3 m.passes
  move_stands Times left right m eh =
      let i = m.step.0 in let j = m.step.1 in
      let hi : i < h = omega arith in
      let hj : j < w = omega arith in
      let fine = subst (λ (x : ℕ). IsFine Times (number_at old (i * x + c)) (number_at quotients j)) wide (e.products i j hi m.step.4 (omega arith)) in
      fine.fine left right (m.step.5 ∙ sym (read i c hi hc)) (m.step.6 ∙ sym (q.exact j m.step.3)) m.passes
  move_stands Minus left right m eh =
      let i = m.step.0 in let j = m.step.1 in
      let hi : i < h = omega arith in
      let hj : j < w = omega arith in
      let fine = subst (λ (x : ℕ). IsFine Minus (number_at old (i * x + j)) (number_at old (i * x + c) *ℚ number_at quotients j)) wide (e.differences i j hi m.step.4 (omega arith) m.step.5) in
      fine.fine left right (m.step.6 ∙ sym (read i j hi hj)) (m.step.7 ∙ ap (λ (x : ℚ). x *ℚ quotient d r c j) (sym (read i c hi hc)) ∙ ap (λ (x : ℚ). number_at old (i * w + c) *ℚ x) (sym (q.exact j m.step.3))) m.passes
  move_stands Plus left right m eh = m.step
  move_stands Lcm left right m eh = m.step

pub row_passed_move : (op : Op) (h w : ℕ) (old quotients : List Frac) (d : Dictionary) (r c : ℕ) (left right : Frac) → length quotients ≡ w → d.width ≡ w → d.height ≡ h → d.entry ≡ cell_entry h w old → c < w → AreQuotients d r c quotients → IsSomeRowPassed old quotients h r c op left right → IsPassedMove d r c op left right
row_passed_move Times h w old quotients d r c left right wide is_w is_h entries hc q p =
    let i = p.row in let j = p.passed.step.0 in
    let hi : i < h = p.inside in
    let j_in = p.passed.step.1 in
    let hj : j < d.width = omega arith in
    let place : number_at old (i * length quotients + c) ≡ d.entry i c = ap (λ (x : ℕ). number_at old (i * x + c)) wide ∙ sym (cell_read h w old i c hi hc) ∙ ap (λ (f : ℕ → ℕ → ℚ). f i c) (sym entries) in
    record { step = (i, j, (omega arith), hj, p.other, p.passed.step.2 ∙ place, p.passed.step.3 ∙ q.exact j hj); passes = p.passed.passes }
row_passed_move Minus h w old quotients d r c left right wide is_w is_h entries hc q p =
    let i = p.row in let j = p.passed.step.0 in
    let hi : i < h = p.inside in
    let j_in = p.passed.step.1 in
    let hj : j < d.width = omega arith in
    let hw : j < w = omega arith in
    let place : number_at old (i * length quotients + c) ≡ d.entry i c = ap (λ (x : ℕ). number_at old (i * x + c)) wide ∙ sym (cell_read h w old i c hi hc) ∙ ap (λ (f : ℕ → ℕ → ℚ). f i c) (sym entries) in
    let here : number_at old (i * length quotients + j) ≡ d.entry i j = ap (λ (x : ℕ). number_at old (i * x + j)) wide ∙ sym (cell_read h w old i j hi hw) ∙ ap (λ (f : ℕ → ℕ → ℚ). f i j) (sym entries) in
    record { step = (i, j, (omega arith), hj, p.other, p.passed.step.2, p.passed.step.3 ∙ here, p.passed.step.4 ∙ ap (λ (x : ℚ). x *ℚ number_at quotients j) place ∙ ap (λ (x : ℚ). d.entry i c *ℚ x) (q.exact j hj)); passes = p.passed.passes }
row_passed_move Plus h w old quotients d r c left right wide is_w is_h entries hc q p = absurd p.passed.step
row_passed_move Over h w old quotients d r c left right wide is_w is_h entries hc q p = absurd p.passed.step
row_passed_move Lcm h w old quotients d r c left right wide is_w is_h entries hc q p = absurd p.passed.step

-- ---- the numbers
past_end : (xs : List ℕ) (i : ℕ) → length xs ≤ i → get_or xs i 0 ≡ 0
past_end xs i h = get_or_past xs i 0 h

pub replaced_list : (xs : List ℕ) (k x n : ℕ) → length xs ≡ n → k < n → (λ (i : ℕ). slice_index_or (set xs k x) i 0) ≡ replaced n (λ (i : ℕ). slice_index_or xs i 0) k x
replaced_list xs k x n long inside = fun_ext (λ i. ⊎_elim
    (λ (hi : i < n). ⊎_elim
    (λ (e : i ≡ k). ap (λ (y : ℕ). get_or (set xs k x) y 0) e ∙ get_or-set_same xs k x 0 (omega arith) ∙ sym (replaced_at n (λ (y : ℕ). slice_index_or xs y 0) k x i hi e))
    (λ (ne : i ≢ k). get_or-set_other xs k i x 0 ne ∙ sym (replaced_off n (λ (y : ℕ). slice_index_or xs y 0) k x i hi ne)) (cases_eq i k))
    (λ (hi : n ≤ i). past_end (set xs k x) i (let same = length-set xs k x in omega arith) ∙ sym (replaced_past n (λ (y : ℕ). slice_index_or xs y 0) k x i hi)) (low_or_high i n))

abbrev pub dictionary : ℕ → ℕ → (ℕ → ℕ) → (ℕ → ℕ) → (ℕ → ℕ → ℚ) → Dictionary
dictionary h w b n t = record { height = h; width = w; basic = b; nonbasic = n; entry = t }

pub same_dictionary : (h w : ℕ) (b b' n n' : ℕ → ℕ) (t t' : ℕ → ℕ → ℚ) → b ≡ b' → n ≡ n' → t ≡ t' → dictionary h w b n t ≡ dictionary h w b' n' t'
same_dictionary h w b b' n n' t t' eb en et = ap (λ (x : ℕ → ℕ). dictionary h w x n t) eb ∙ ap (λ (x : ℕ → ℕ). dictionary h w b' x t) en ∙ ap (λ (x : ℕ → ℕ → ℚ). dictionary h w b' n' x) et

-- ---- the quotients
pub quotient_more : (op : Op) (d : Dictionary) (r c j : ℕ) (blank : List Frac) (x y z : Frac) → j < length blank → value_of x ≡ dividend d r c j → value_of y ≡ d.entry r c → value_of z ≡ value_of x *ℚ inverse (value_of y) → (Passes op x y → ⊥)
    → ((k : ℕ) → k < j → number_at blank k ≡ quotient d r c k) → ((k : ℕ) → k < j → IsFine op (dividend d r c k) (d.entry r c))
    → ((k : ℕ) → k < j + 1 → number_at (set blank j z) k ≡ quotient d r c k) × ((k : ℕ) → k < j + 1 → IsFine op (dividend d r c k) (d.entry r c))
quotient_more op d r c j blank x y z inside ex ey ez never exact fine = (
  λ k l. ⊎_elim
      (λ (e : k ≡ j). subst (λ (i : ℕ). number_at (set blank j z) i ≡ quotient d r c i) (sym e) (number_at-set_same blank j z inside ∙ ez ∙ ap (λ (q : ℚ). q *ℚ inverse (value_of y)) ex ∙ ap (λ (q : ℚ). dividend d r c j *ℚ inverse q) ey))
      (λ (ne : k ≢ j). number_at-set_other blank j z k ne ∙ exact k (omega arith)) (cases_eq k j),
  λ k l. ⊎_elim
      (λ (e : k ≡ j). subst (λ (i : ℕ). IsFine op (dividend d r c i) (d.entry r c)) (sym e) (fine_moved op (value_of x) (value_of y) (dividend d r c j) (d.entry r c) (fine_of op x y never) ex ey))
      (λ (ne : k ≢ j). fine k (omega arith)) (cases_eq k j),
)

pub quotient_passed : (d : Dictionary) (r c j : ℕ) (x y : Frac) (e : RangePassed) → j < d.width → value_of x ≡ dividend d r c j → value_of y ≡ d.entry r c → e ≡ record { op = Over; left = x; right = y } → Passes Over x y → IsPassedMove d r c e.op e.left e.right
quotient_passed d r c j x y e inside ex ey is p = subst (λ (z : RangePassed). IsPassedMove d r c z.op z.left z.right) (sym is) (record { step = (j, inside, ex, ey); passes = p })

abbrev numbers : List ℕ → ℕ → ℕ
numbers xs i = slice_index_or xs i 0

pub turned_dictionary : (g k g' k' r c : ℕ) (basic nonbasic basic' nonbasic' : List ℕ) (old new : List Frac) → g' ≡ g → k' ≡ k → basic' ≡ set basic r (numbers nonbasic c) → nonbasic' ≡ set nonbasic c (numbers basic r) → length basic ≡ suc g → length nonbasic ≡ suc k → r < suc g → c < suc k → cell_entry (suc g) (suc k) new ≡ pivot_entry (suc g) (suc k) (cell_entry (suc g) (suc k) old) r c
    → dictionary (suc g') (suc k') (λ i. slice_index_or basic' i 0) (λ j. slice_index_or nonbasic' j 0) (cell_entry (suc g') (suc k') new) ≡ pivot (dictionary (suc g) (suc k) (λ i. slice_index_or basic i 0) (λ j. slice_index_or nonbasic j 0) (cell_entry (suc g) (suc k) old)) r c
turned_dictionary g k g' k' r c basic nonbasic basic' nonbasic' old new eg ek eb en lb ln hr hc cells =
    ap (λ (x : ℕ). dictionary (suc x) (suc k') (numbers basic') (numbers nonbasic') (cell_entry (suc x) (suc k') new)) eg
    ∙ ap (λ (x : ℕ). dictionary (suc g) (suc x) (numbers basic') (numbers nonbasic') (cell_entry (suc g) (suc x) new)) ek
    ∙ ap (λ (xs : List ℕ). dictionary (suc g) (suc k) (numbers xs) (numbers nonbasic') (cell_entry (suc g) (suc k) new)) eb
    ∙ ap (λ (xs : List ℕ). dictionary (suc g) (suc k) (numbers (set basic r (numbers nonbasic c))) (numbers xs) (cell_entry (suc g) (suc k) new)) en
    ∙ same_dictionary (suc g) (suc k) (numbers (set basic r (numbers nonbasic c))) (replaced (suc g) (numbers basic) r (numbers nonbasic c)) (numbers (set nonbasic c (numbers basic r))) (replaced (suc k) (numbers nonbasic) c (numbers basic r)) (cell_entry (suc g) (suc k) new) (pivot_entry (suc g) (suc k) (cell_entry (suc g) (suc k) old) r c)
    (replaced_list basic r (numbers nonbasic c) (suc g) lb hr) (replaced_list nonbasic c (numbers basic r) (suc k) ln hc) cells
