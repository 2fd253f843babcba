-- Rows: what a sum of columns is at a point, and when a row holds there.
use Rattle.std.specs.Prelude.{◌≡◌, List, [], ◌∷◌, ℤ, pos, ◌+ℤ◌, ◌*ℤ◌, ◌≤ℤ◌, Bool, true, false, if◌then◌else◌}
use Rattle.sm_kinds.specs.Points.{Point, has_value}
use Rattle.sm_step.specs.declared.row.Col.{Col}
use Rattle.sm_step.specs.declared.row.Col.TheVariants.{Var, Is}
use Rattle.sm_rows.specs.declared.row.Row.{Row}

-- what the column stands for at the point, times the denominator: the variable's value, or 1 where it is this one, else 0
abbrev pub column_at : Point → Col → ℤ
column_at a (Var i) = a.numerator i
column_at a (Is i v) = if has_value a i v then a.denominator else pos 0

abbrev pub row_sum : Point → List (Col × ℤ) → ℤ
row_sum a [] = pos 0
row_sum a (t ∷ ts) = (t.1 *ℤ column_at a t.0) +ℤ row_sum a ts

abbrev pub ComparesRow : Bool → ℤ → ℤ → Type 0
ComparesRow true sum bound = sum ≡ bound
ComparesRow false sum bound = bound ≤ℤ sum

abbrev pub RowHolds : Point → Row → Type 0
RowHolds a r = ComparesRow r.equal (row_sum a r.terms) (r.bound *ℤ a.denominator)
