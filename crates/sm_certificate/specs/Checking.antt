-- The check of a proposed answer: what its parts find, and the steps of its arithmetic.
use Rattle.std.specs.Prelude.{◌≡◌, ◌≢◌, ℕ, ℤ, pos, ◌<◌, ◌<ℤ◌, ◌^◌, List, [], length, map, slice_get, slice_index_or, Option, Some, None, true, false, if◌then◌else◌, unsigned_abs, ◌⊎◌, All}
use Rattle.sm_frac.specs.Rational.{ℚ, ◌+ℚ◌, ◌*ℚ◌, ◌≤ℚ◌, zero_ℚ, whole_ℚ, is_nonnegative}
use Rattle.sm_frac.specs.Frac.{value_of}
use Rattle.sm_frac.specs.Passes.{Passes}
use Rattle.sm_frac.specs.declared.fraction.Frac.{Frac}
use Rattle.sm_frac.specs.declared.operation.Op.{Op}
use Rattle.sm_frac.specs.declared.operation.Op.TheVariants.{Plus, Minus, Times, Over, Lcm}
use Rattle.sm_certificate.specs.declared.program.Program.{Program}
use Rattle.sm_certificate.specs.declared.program.LpRow.{LpRow}
use Rattle.sm_certificate.specs.declared.proposal.Proposal.{Proposal}
use Rattle.sm_certificate.specs.declared.proposal.Proposal.TheVariants.{Optimal, Infeasible}
use Rattle.sm_certificate.specs.declared.proposal.Checked.{Checked}
use Rattle.sm_certificate.specs.declared.proposal.Checked.TheVariants.{Certified, Refuted, Passed}
use Rattle.sm_certificate.specs.Totals.{total}
use Rattle.sm_certificate.specs.Program.{column_count, low, high, cost, coefficient, row_coefficient, row_bound, point_value, combined_coefficient, combined_bound, rest_coefficient, SatisfiesRow, cost_of, bound_of}

-- ---- one operation, or one product more

-- the operation on these two fractions is one of the steps, and passes the range
pub record PassesAt (IsStep : Op → ℚ → ℚ → Type 0) (op : Op) (left right : Frac) : Type 0 where
  pub step : IsStep op (value_of left) (value_of right)
  pub passes : Passes op left right

-- none of the steps passes
abbrev pub NonePasses : (Op → ℚ → ℚ → Type 0) → Type 0
NonePasses IsStep = (op : Op) (left right : Frac) → PassesAt IsStep op left right → ⊥

-- adding the product of a and b to a sum
abbrev pub IsProductStep : ℚ → ℚ → ℚ → Op → ℚ → ℚ → Type 0
IsProductStep sum a b Times x y = (x ≡ a) × (y ≡ b)
IsProductStep sum a b Plus x y = (x ≡ sum) × (y ≡ a *ℚ b)
IsProductStep sum a b Minus x y = ⊥
IsProductStep sum a b Over x y = ⊥
IsProductStep sum a b Lcm x y = ⊥

-- adding up the products of the first n numbers a and b, in order
abbrev pub IsSumStep : ℕ → (ℕ → ℚ) → (ℕ → ℚ) → Op → ℚ → ℚ → Type 0
IsSumStep n a b op x y = (k : ℕ) × (k < n) × IsProductStep (total k (λ i. a i *ℚ b i)) (a k) (b k) op x y

-- the constant, where the target has one, is added
abbrev pub IsConstantStep : ℚ → Option ℤ → Op → ℚ → ℚ → Type 0
IsConstantStep bound None op x y = ⊥
IsConstantStep bound (Some constant) op x y = (op ≡ Plus) × (x ≡ bound) × (y ≡ whole_ℚ constant)

abbrev pub with_constant : ℚ → Option ℤ → ℚ
with_constant bound None = bound
with_constant bound (Some constant) = bound +ℚ whole_ℚ constant

-- ---- the point

-- the column and the number of the term at place k
abbrev pub term_column : List (ℕ × ℤ) → ℕ → ℕ
term_column terms k = (slice_index_or terms k (0, pos 0)).0

abbrev pub term_number : List (ℕ × ℤ) → ℕ → ℚ
term_number terms k = whole_ℚ (slice_index_or terms k (0, pos 0)).1

-- a column's value is its numerator over the denominator
pub record IsValueStep (numerator denominator : ℤ) (op : Op) (x y : ℚ) : Type 0 where
  pub operation : op ≡ Over
  pub left_is : x ≡ whole_ℚ numerator
  pub right_is : y ≡ whole_ℚ denominator

abbrev pub IsCoordinateStep : List ℤ → ℤ → Op → ℚ → ℚ → Type 0
IsCoordinateStep point denominator op x y = (j : ℕ) × (j < length point) × IsValueStep (slice_index_or point j (pos 0)) denominator op x y

-- the sum of some terms at the point, term after term
abbrev pub IsTermsStep : List (ℕ × ℤ) → List ℤ → ℤ → Op → ℚ → ℚ → Type 0
IsTermsStep terms point denominator op x y = IsCoordinateStep point denominator op x y ⊎ IsSumStep (length terms) (term_number terms) (λ k. point_value point denominator (term_column terms k)) op x y

abbrev pub IsRowsStep : List LpRow → List ℤ → ℤ → Op → ℚ → ℚ → Type 0
IsRowsStep rows point denominator op x y = (i : ℕ) × (row : LpRow) × (slice_get rows i ≡ Some row) × IsTermsStep row.terms point denominator op x y

-- the cost of the point, column after column, and then the constant
abbrev pub IsCostStep : Program → ℤ → List ℤ → ℤ → Op → ℚ → ℚ → Type 0
IsCostStep p constant point denominator op x y = IsCoordinateStep point denominator op x y ⊎ (IsSumStep (column_count p) (cost p) (point_value point denominator) op x y ⊎ IsConstantStep (cost_of p (point_value point denominator)) (Some constant) op x y)

-- ---- the combination of the rows

-- a row that says nothing
abbrev pub no_row : LpRow
no_row = record { terms = []; equal = false; bound = pos 0 }

-- the multiplier of row i, the number that row i gives to column j, and the bound of row i
abbrev pub multiplier_at : List ℚ → ℕ → ℚ
multiplier_at ys i = slice_index_or ys i zero_ℚ

abbrev pub number_in : List LpRow → ℕ → ℕ → ℚ
number_in rows j i = row_coefficient (slice_index_or rows i no_row) j

abbrev pub bound_in : List LpRow → ℕ → ℚ
bound_in rows i = row_bound (slice_index_or rows i no_row)

-- The sums of the first n columns: of each the products of the rows' multipliers and numbers, added up from zero in row order.
abbrev pub IsColumnsStep : ℕ → List LpRow → List ℚ → Op → ℚ → ℚ → Type 0
IsColumnsStep n rows ys op x y = (j : ℕ) × (j < n) × IsSumStep (length rows) (multiplier_at ys) (number_in rows j) op x y

-- a row, times y, is added to what the rows before give
abbrev pub IsRowTermsStep : ℕ → (ℕ → ℚ) → ℚ → List (ℕ × ℤ) → Op → ℚ → ℚ → Type 0
IsRowTermsStep n before y terms op u v = (j : ℕ) × (j < n) × IsProductStep (before j) y (coefficient terms j) op u v

-- what is left of a coefficient: it less its column's sum
pub record IsDifferenceStep (coefficient sum : ℚ) (op : Op) (x y : ℚ) : Type 0 where
  pub operation : op ≡ Minus
  pub left_is : x ≡ coefficient
  pub right_is : y ≡ sum

abbrev pub IsDifferencesStep : ℕ → (ℕ → ℚ) → (ℕ → ℚ) → Op → ℚ → ℚ → Type 0
IsDifferencesStep n target sums op x y = (j : ℕ) × (j < n) × IsDifferenceStep (target j) (sums j) op x y

-- the remaining coefficients of the target
abbrev pub IsRestStep : Program → (ℕ → ℚ) → List ℚ → Op → ℚ → ℚ → Type 0
IsRestStep p target ys op x y = IsColumnsStep (column_count p) p.rows ys op x y ⊎ IsDifferencesStep (column_count p) target (combined_coefficient p.rows ys) op x y

-- the rows' bounds, each times its multiplier, are added up from zero in row order
abbrev pub IsRowsBoundStep : List LpRow → List ℚ → Op → ℚ → ℚ → Type 0
IsRowsBoundStep rows ys = IsSumStep (length rows) (multiplier_at ys) (bound_in rows)

-- the end of a column at which its product with r is least
abbrev pub least_end : ℚ → ℚ → ℚ → ℚ
least_end r least greatest = if is_nonnegative r then least else greatest

-- where r isn't 0, its product with that end is added
abbrev pub IsEndStep : ℚ → ℚ → ℚ → ℚ → Op → ℚ → ℚ → Type 0
IsEndStep bound r least greatest op x y = (r ≢ zero_ℚ) × IsProductStep bound r (least_end r least greatest) op x y

-- The remaining coefficients, each times the end of its column at which that is least, are added in column order.
abbrev pub IsEndsStep : Program → ℚ → (ℕ → ℚ) → Op → ℚ → ℚ → Type 0
IsEndsStep p bound rest op x y = (j : ℕ) × (j < column_count p) × IsEndStep (bound +ℚ total j (λ k. rest k *ℚ least_end (rest k) (low p k) (high p k))) (rest j) (low p j) (high p j) op x y

-- The bound that the multipliers give for a target: first the remaining coefficients, then one running sum of the rows' bounds, the constant and the columns.
abbrev pub IsBoundStep : Program → (ℕ → ℚ) → Option ℤ → List ℚ → Op → ℚ → ℚ → Type 0
IsBoundStep p target constant ys op x y =
    IsRestStep p target ys op x y
    ⊎ (IsRowsBoundStep p.rows ys op x y
    ⊎ (IsConstantStep (combined_bound p.rows ys) constant op x y
    ⊎ IsEndsStep p (with_constant (combined_bound p.rows ys) constant) (rest_coefficient p target ys) op x y))

-- ---- the whole check

abbrev pub IsPairStep : Program → ℤ → ℤ → List ℤ → List ℚ → Op → ℚ → ℚ → Type 0
IsPairStep p constant denominator point ys op x y = IsRowsStep p.rows point denominator op x y ⊎ (IsCostStep p constant point denominator op x y ⊎ IsBoundStep p (cost p) (Some constant) ys op x y)

-- The combination of a proposal: of a point for the cost and its constant, else for the target zero.
abbrev pub IsCombinationStep : Program → ℤ → Proposal → Op → ℚ → ℚ → Type 0
IsCombinationStep p constant (Optimal denominator point multipliers) op x y = IsBoundStep p (cost p) (Some constant) (map value_of multipliers.items) op x y
IsCombinationStep p constant (Infeasible multipliers) op x y = IsBoundStep p (λ _. zero_ℚ) None (map value_of multipliers.items) op x y

-- The steps of the check of a proposal: of a point, those of its rows, its cost and the combination; else those of the combination alone.
abbrev pub IsCheckStep : Program → ℤ → Proposal → Op → ℚ → ℚ → Type 0
IsCheckStep p constant (Optimal denominator point multipliers) op x y = IsPairStep p constant denominator point.items (map value_of multipliers.items) op x y
IsCheckStep p constant (Infeasible multipliers) op x y = IsBoundStep p (λ _. zero_ℚ) None (map value_of multipliers.items) op x y

-- ---- what the parts of the check find

-- the check of a fact finds that it holds, that it doesn't, or a step that passes
abbrev pub Finds : Type 0 → (Op → ℚ → ℚ → Type 0) → Checked → Type 0
Finds P IsStep Certified = P
Finds P IsStep Refuted = P → ⊥
Finds P IsStep (Passed e) = PassesAt IsStep e.op e.left e.right

-- a value lies between two ends
pub record IsInside (ends : ℤ × ℤ) (x : ℚ) : Type 0 where
  pub least : whole_ℚ ends.0 ≤ℚ x
  pub greatest : x ≤ℚ whole_ℚ ends.1

-- each column's value lies between its ends
pub record AreInside (columns : List (ℤ × ℤ)) (point : List ℤ) (denominator : ℤ) : Type 0 where
  pub each : (j : ℕ) → j < length columns → IsInside (slice_index_or columns j (pos 0, pos 0)) (point_value point denominator j)

-- a point with a denominator, a value for each column, each between its ends
pub record IsBoxed (p : Program) (denominator : ℤ) (point : List ℤ) : Type 0 where
  pub above : pos 0 <ℤ denominator
  pub long : length point ≡ column_count p
  pub inside : AreInside p.columns point denominator

-- each numerator is in the range of a fraction
pub record AreSmall (point : List ℤ) : Type 0 where
  pub small : (j : ℕ) → unsigned_abs (slice_index_or point j (pos 0)) < 2 ^ 127

-- the sum of some terms at the point x
abbrev pub terms_value : List (ℕ × ℤ) → (ℕ → ℚ) → ℚ
terms_value terms x = total (length terms) (λ k. term_number terms k *ℚ x (term_column terms k))

-- a sum meets the row: at least its bound, and for an equality the bound itself
pub record Meets (row : LpRow) (v : ℚ) : Type 0 where
  pub least : row_bound row ≤ℚ v
  pub same : row.equal ≡ true → v ≡ row_bound row

-- the rows hold at the point, and it costs what the multipliers give as a bound
pub record IsTight (p : Program) (denominator : ℤ) (point : List ℤ) (ys : List ℚ) : Type 0 where
  pub rows : All (SatisfiesRow (length point) (point_value point denominator)) p.rows
  pub bound : cost_of p (point_value point denominator) ≡ bound_of p (cost p) ys
