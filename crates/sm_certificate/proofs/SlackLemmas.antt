-- Counting the halves of the rows, and the numbers that terms give.
use Rattle.std.proofs.Common.{◌≡◌, ◌≢◌, ℕ, ℤ, suc, ◌<◌, ◌≤◌, ◌+◌, ◌^◌, List, [], ◌∷◌, length, get_or, drop, sym, subst, ap, ◌∙◌, refl, arith}
use Rattle.std.specs.Prelude.{if◌then◌else◌, Bool, true, false, All}
use Rattle.std.proofs.Math.Seq.{drop-cons}
use Rattle.std.proofs.lemmas.List.{drop_all}
use Rattle.sm_frac.specs.Rational.{ℚ, ◌+ℚ◌, neg_ℚ, zero_ℚ, whole_ℚ}
use Rattle.sm_frac.proofs.RationalRing.{ring}
use Rattle.sm_certificate.specs.declared.program.Program.{Program}
use Rattle.sm_certificate.specs.declared.program.LpRow.{LpRow}
use Rattle.sm_certificate.specs.Program.{column_count, coefficient}
use Rattle.sm_certificate.specs.Slacks.{Half, halves, halves_of, number_count}
use Rattle.sm_certificate.specs.Conditions.{IsSolvable, AreColumns, IsProgramRow}
use Rattle.sm_certificate.proofs.Totals.{choose, choose_not}

-- ---- counting halves
kind_count : (e : Bool) (a b : Half) (hs : List Half) → length (if e then a ∷ b ∷ hs else a ∷ hs) ≡ length (if e then a ∷ b ∷ [] else a ∷ []) + length hs
kind_count true a b hs = omega arith
kind_count false a b hs = omega arith

pub halves_count : (row : LpRow) (rows : List LpRow) → length (halves (row ∷ rows)) ≡ length (halves_of row) + length (halves rows)
unfolding halves halves_of
halves_count row rows = kind_count row.equal (record { coefficient = λ j. coefficient row.terms j; bound = whole_ℚ row.bound }) (record { coefficient = λ j. neg_ℚ (coefficient row.terms j); bound = neg_ℚ (whole_ℚ row.bound) }) (halves rows)

pub count_two : (row : LpRow) → row.equal ≡ true → length (halves_of row) ≡ 2
unfolding halves_of
count_two row e = rw e refl

pub count_one : (row : LpRow) → row.equal ≡ false → length (halves_of row) ≡ 1
unfolding halves_of
count_one row e = rw e refl

pub no_halves : length (halves []) ≡ 0
unfolding halves
no_halves = refl

-- one row less
pub drop_halves : (rows : List LpRow) (i : ℕ) (row : LpRow) → i < length rows → row ≡ get_or rows i row → halves (drop i rows) ≡ halves (row ∷ drop (i + 1) rows)
drop_halves rows i row h is = let e : suc i ≡ i + 1 = omega arith in ap halves (drop-cons rows i row h ∙ ap (λ (r : LpRow). r ∷ drop (suc i) rows) (sym is) ∙ ap (λ (k : ℕ). row ∷ drop k rows) e)

pub all_counted : (rows : List LpRow) (i : ℕ) → length rows ≤ i → length (halves (drop i rows)) ≡ 0
all_counted rows i h = ap (λ (xs : List LpRow). length (halves xs)) (drop_all i rows h) ∙ no_halves

-- ---- the numbers of the terms
pub coefficient_none : (j : ℕ) → coefficient [] j ≡ zero_ℚ
unfolding coefficient
coefficient_none j = refl

pub term_here : (t : ℕ × ℤ) (ts : List (ℕ × ℤ)) (j : ℕ) → t.0 ≡ j → coefficient (t ∷ ts) j ≡ whole_ℚ t.1 +ℚ coefficient ts j
unfolding coefficient
term_here t ts j e = ap (λ (x : ℚ). x +ℚ coefficient ts j) (choose t.0 j (whole_ℚ t.1) zero_ℚ e)

pub term_off : (t : ℕ × ℤ) (ts : List (ℕ × ℤ)) (j : ℕ) → t.0 ≢ j → coefficient (t ∷ ts) j ≡ coefficient ts j
unfolding coefficient
term_off t ts j e = ap (λ (x : ℚ). x +ℚ coefficient ts j) (choose_not t.0 j (whole_ℚ t.1) zero_ℚ e) ∙ tidy (coefficient ts j)
  where
    tidy : (x : ℚ) → zero_ℚ +ℚ x ≡ x
    tidy x = simp ring

-- ---- the test of a program
pub columns_of : (p : Program) (columns : List (ℤ × ℤ)) (costs : List ℤ) → columns ≡ p.columns → costs ≡ p.cost → IsSolvable p → AreColumns columns costs
columns_of p columns costs e k s =
    subst (λ (xs : List (ℤ × ℤ)). AreColumns xs costs) (sym e)
    (subst (λ (ys : List ℤ). AreColumns p.columns ys) (sym k) (record { costs_long = s.costs; boxes = s.boxes; small_costs = s.small_costs; shifted = s.shifted }))

pub rows_of : (p : Program) (n : ℕ) (rows : List LpRow) → n ≡ column_count p → rows ≡ p.rows → IsSolvable p → All (IsProgramRow n) rows
rows_of p n rows e k s = subst (λ (m : ℕ). All (IsProgramRow m) rows) (sym e) (subst (λ (rs : List LpRow). All (IsProgramRow (column_count p)) rs) (sym k) s.rows)

pub solvable : (p : Program) (columns : List (ℤ × ℤ)) (costs : List ℤ) (n : ℕ) (rows : List LpRow) → columns ≡ p.columns → costs ≡ p.cost → n ≡ column_count p → rows ≡ p.rows → AreColumns columns costs → All (IsProgramRow n) rows → suc (number_count p) < 2 ^ 32 → IsSolvable p
solvable p columns costs n rows ec ek en er c r m =
    let d = subst (λ (xs : List (ℤ × ℤ)). AreColumns xs p.cost) ec (subst (λ (ys : List ℤ). AreColumns columns ys) ek c) in
    record {
      costs = d.costs_long;
      boxes = d.boxes;
      rows = subst (λ (m : ℕ). All (IsProgramRow m) p.rows) en (subst (λ (rs : List LpRow). All (IsProgramRow n) rs) er r);
      small_costs = d.small_costs;
      shifted = d.shifted;
      numbered = m;
    }
