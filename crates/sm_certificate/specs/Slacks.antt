-- The slacks of a program, and its numbers.
use Rattle.std.specs.Prelude.{ℕ, ◌+◌, if◌then◌else◌, List, [], ◌∷◌, length, slice_index_or}
use Rattle.sm_frac.specs.Rational.{ℚ, neg_ℚ, zero_ℚ}
use Rattle.sm_certificate.specs.declared.program.Program.{Program}
use Rattle.sm_certificate.specs.declared.program.LpRow.{LpRow}
use Rattle.sm_certificate.specs.Program.{column_count, row_coefficient, row_bound}

-- a row that is at least its bound
pub record Half : Type 0 where
  pub coefficient : ℕ → ℚ
  pub bound : ℚ

abbrev pub upper_half : LpRow → Half
upper_half row = record { coefficient = row_coefficient row; bound = row_bound row }

-- the row with all its signs turned
abbrev pub turned_half : LpRow → Half
turned_half row = record { coefficient = λ j. neg_ℚ (row_coefficient row j); bound = neg_ℚ (row_bound row) }

-- an equality is two halves, any other row is one
unfoldable pub halves_of : LpRow → List Half
halves_of row = if row.equal then upper_half row ∷ turned_half row ∷ [] else upper_half row ∷ []

unfoldable pub halves : List LpRow → List Half
halves [] = []
halves (row ∷ rows) = if row.equal then upper_half row ∷ turned_half row ∷ halves rows else upper_half row ∷ halves rows

abbrev pub half_count : Program → ℕ
half_count p = length (halves p.rows)

abbrev pub half_at : Program → ℕ → Half
half_at p i = slice_index_or (halves p.rows) i (record { coefficient = λ _. zero_ℚ; bound = zero_ℚ })

-- the slacks: one for each half of a row, then one for the greatest end of each column
abbrev pub slack_count : Program → ℕ
slack_count p = half_count p + column_count p

-- the numbers: the columns, then the slacks
abbrev pub number_count : Program → ℕ
number_count p = column_count p + slack_count p
