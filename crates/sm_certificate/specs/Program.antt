-- A linear program: its columns with their two ends, its rows, its cost, and what a point and a combination of its rows are.
use Rattle.std.specs.Prelude.{◌≡◌, ℕ, ℤ, pos, ◌<◌, List, [], ◌∷◌, length, ◌==◌, if◌then◌else◌, slice_index_or, unsigned_abs, true, false, All}
use Rattle.sm_frac.specs.Rational.{ℚ, ◌+ℚ◌, ◌*ℚ◌, ◌-ℚ◌, ◌≤ℚ◌, zero_ℚ, whole_ℚ, fraction, is_nonnegative}
use Rattle.sm_certificate.specs.declared.program.Program.{Program}
use Rattle.sm_certificate.specs.declared.program.LpRow.{LpRow}
use Rattle.sm_certificate.specs.Totals.{total}
use Rattle.sm_certificate.specs.Signs.{AtLeast}

abbrev pub column_count : Program → ℕ
column_count p = length p.columns

-- the least and the greatest end of a column, and its cost
unfoldable pub low : Program → ℕ → ℚ
low p j = whole_ℚ (slice_index_or p.columns j (pos 0, pos 0)).0

unfoldable pub high : Program → ℕ → ℚ
high p j = whole_ℚ (slice_index_or p.columns j (pos 0, pos 0)).1

unfoldable pub cost : Program → ℕ → ℚ
cost p j = whole_ℚ (slice_index_or p.cost j (pos 0))

-- the coefficient that a list of them gives to column j, 0 past its end
abbrev pub target_at : List ℤ → ℕ → ℚ
target_at target j = whole_ℚ (slice_index_or target j (pos 0))

-- the number that the terms give to column j, 0 where none names it
unfoldable pub coefficient : List (ℕ × ℤ) → ℕ → ℚ
coefficient [] j = zero_ℚ
coefficient (t ∷ ts) j = (if t.0 == j then whole_ℚ t.1 else zero_ℚ) +ℚ coefficient ts j

abbrev pub row_coefficient : LpRow → ℕ → ℚ
row_coefficient row j = coefficient row.terms j

abbrev pub row_bound : LpRow → ℚ
row_bound row = whole_ℚ row.bound

-- the sum of a row at the point x
abbrev pub row_value : ℕ → LpRow → (ℕ → ℚ) → ℚ
row_value n row x = total n (λ j. row_coefficient row j *ℚ x j)

-- an equality holds exactly, any other row is at least its bound
abbrev pub SatisfiesRow : ℕ → (ℕ → ℚ) → LpRow → Type 0
SatisfiesRow n x row = (row_bound row ≤ℚ row_value n row x) × (row.equal ≡ true → row_value n row x ≡ row_bound row)

-- the point x lies within the ends of the columns and satisfies the rows
pub record Satisfies (p : Program) (x : ℕ → ℚ) : Type 0 where
  pub least_ends : (j : ℕ) → j < column_count p → low p j ≤ℚ x j
  pub greatest_ends : (j : ℕ) → j < column_count p → x j ≤ℚ high p j
  pub rows : All (SatisfiesRow (column_count p) x) p.rows

-- the cost of the point x
abbrev pub cost_of : Program → (ℕ → ℚ) → ℚ
cost_of p x = total (column_count p) (λ j. cost p j *ℚ x j)

-- the columns' values at a point that is given by numerators over one denominator
abbrev pub point_value : List ℤ → ℤ → ℕ → ℚ
point_value point denominator j = fraction (slice_index_or point j (pos 0)) (unsigned_abs denominator)

-- ---- combinations of the rows

-- a multiplier for each row, of any sign for an equality and at least 0 for any other row
unfoldable pub AreMultipliers : List LpRow → List ℚ → Type 0
AreMultipliers [] [] = Unit {0}
AreMultipliers [] (y ∷ ys) = ⊥
AreMultipliers (row ∷ rows) [] = ⊥
AreMultipliers (row ∷ rows) (y ∷ ys) = (row.equal ≡ false → AtLeast y) × AreMultipliers rows ys

-- the coefficient of column j in the sum of the rows, each times its multiplier
unfoldable pub combined_coefficient : List LpRow → List ℚ → ℕ → ℚ
combined_coefficient [] ys j = zero_ℚ
combined_coefficient (row ∷ rows) [] j = zero_ℚ
combined_coefficient (row ∷ rows) (y ∷ ys) j = y *ℚ row_coefficient row j +ℚ combined_coefficient rows ys j

-- the bound of that sum
unfoldable pub combined_bound : List LpRow → List ℚ → ℚ
combined_bound [] ys = zero_ℚ
combined_bound (row ∷ rows) [] = zero_ℚ
combined_bound (row ∷ rows) (y ∷ ys) = y *ℚ row_bound row +ℚ combined_bound rows ys

-- what is left of the target's coefficient after the combination
abbrev pub rest_coefficient : Program → (ℕ → ℚ) → List ℚ → ℕ → ℚ
rest_coefficient p target ys j = target j -ℚ combined_coefficient p.rows ys j

-- a coefficient times the column's least end, or where it is negative its greatest: the least that the product can be
abbrev pub least_product : ℚ → ℚ → ℚ → ℚ
least_product r least greatest = if is_nonnegative r then r *ℚ least else r *ℚ greatest

-- the least that a sum of the columns, each times its coefficient, can be between their ends
abbrev pub least_rest : Program → (ℕ → ℚ) → ℚ
least_rest p rest = total (column_count p) (λ j. least_product (rest j) (low p j) (high p j))

-- The bound that the multipliers give: no point that satisfies the program has a lesser sum of target times column.
unfoldable pub bound_of : Program → (ℕ → ℚ) → List ℚ → ℚ
bound_of p target ys = combined_bound p.rows ys +ℚ least_rest p (rest_coefficient p target ys)
