-- What the rows of the first dictionary's table hold once they are written.
use Rattle.std.specs.Prelude.{◌≡◌, ◌≢◌, ℕ, ℤ, suc, pos, ◌+◌, ◌*◌, ◌<◌, ◌≤◌, ◌^◌, Bool, true, false, List, length, slice_index_or, All, unsigned_abs}
use Rattle.sm_frac.specs.Rational.{ℚ, ◌*ℚ◌, ◌-ℚ◌, neg_ℚ, zero_ℚ, one_ℚ, whole_ℚ}
use Rattle.sm_frac.specs.declared.fraction.Frac.{Frac}
use Rattle.sm_certificate.specs.declared.program.Program.{Program}
use Rattle.sm_certificate.specs.declared.program.LpRow.{LpRow}
use Rattle.sm_lp.specs.declared.first.Sizes.{Sizes}
use Rattle.sm_certificate.specs.Numbers.{number_at}
use Rattle.sm_certificate.specs.Totals.{total}
use Rattle.sm_certificate.specs.Program.{column_count, coefficient}
use Rattle.sm_certificate.specs.Slacks.{Half, halves_of, half_count, half_at, slack_count, number_count}
use Rattle.sm_lp.specs.First.{half_entry, end_entry, first_entry}

abbrev pub IsSmall : ℤ → Type 0
IsSmall z = unsigned_abs z ≤ 2 ^ 42

-- the list has each column's number by the terms
pub record AreNumbers (n : ℕ) (terms : List (ℕ × ℤ)) (numbers : List ℤ) : Type 0 where
  pub long : length numbers ≡ n
  pub small : All IsSmall numbers
  pub exact : (j : ℕ) → j < n → whole_ℚ (slice_index_or numbers j (pos 0)) ≡ coefficient terms j

-- the sum of the numbers times the least ends of their columns
abbrev pub shift_total : List ℤ → List (ℤ × ℤ) → ℚ
shift_total numbers columns = total (length columns) (λ j. whole_ℚ (slice_index_or numbers j (pos 0)) *ℚ whole_ℚ (slice_index_or columns j (pos 0, pos 0)).0)

abbrev pub signed : Bool → ℚ → ℚ
signed true x = neg_ℚ x
signed false x = x

-- the row at the place s holds the numbers and then the constant
pub record IsRowWritten (old new : List Frac) (s : ℕ) (numbers : List ℤ) (shift : ℤ) (turned : Bool) : Type 0 where
  pub long : length new ≡ length old
  pub entries : (j : ℕ) → j < length numbers → number_at new (s + j) ≡ signed turned (whole_ℚ (slice_index_or numbers j (pos 0)))
  pub constant : number_at new (s + length numbers) ≡ signed turned (whole_ℚ shift)
  pub before : (k : ℕ) → k < s → number_at new k ≡ number_at old k
  pub after : (k : ℕ) → s + length numbers < k → number_at new k ≡ number_at old k

-- the row at the place s is the half's
abbrev pub IsHalfAt : Program → List Frac → ℕ → Half → Type 0
IsHalfAt p cells s half = (j : ℕ) → j < suc (column_count p) → number_at cells (s + j) ≡ half_entry p half j

abbrev pub no_half : Half
no_half = record { coefficient = λ _. zero_ℚ; bound = zero_ℚ }

-- the halves of a row are written from the place s on
pub record AreHalvesWritten (p : Program) (row : LpRow) (old new : List Frac) (s : ℕ) : Type 0 where
  pub long : length new ≡ length old
  pub halves : (k : ℕ) → k < length (halves_of row) → IsHalfAt p new (s + k * suc (column_count p)) (slice_index_or (halves_of row) k no_half)
  pub before : (k : ℕ) → k < s → number_at new k ≡ number_at old k
  pub after : (k : ℕ) → s + length (halves_of row) * suc (column_count p) ≤ k → number_at new k ≡ number_at old k

-- all halves are written
pub record AreRowsWritten (p : Program) (old new : List Frac) : Type 0 where
  pub long : length new ≡ length old
  pub halves : (i : ℕ) → i < half_count p → IsHalfAt p new (i * suc (column_count p)) (half_at p i)
  pub after : (k : ℕ) → half_count p * suc (column_count p) ≤ k → number_at new k ≡ number_at old k

-- the row at the place s has -1 in the column and the width of its box at the end
pub record IsEndWritten (old new : List Frac) (s c : ℕ) (columns : List (ℤ × ℤ)) : Type 0 where
  pub long : length new ≡ length old
  pub column : number_at new (s + c) ≡ neg_ℚ one_ℚ
  pub constant : number_at new (s + length columns) ≡ whole_ℚ (slice_index_or columns c (pos 0, pos 0)).1 -ℚ whole_ℚ (slice_index_or columns c (pos 0, pos 0)).0
  pub others : (k : ℕ) → k ≢ s + c → k ≢ s + length columns → number_at new k ≡ number_at old k

-- the rows of the greatest ends are written
pub record AreEndsWritten (p : Program) (old new : List Frac) : Type 0 where
  pub long : length new ≡ length old
  pub ends : (k j : ℕ) → k < column_count p → j < suc (column_count p) → number_at new ((half_count p + k) * suc (column_count p) + j) ≡ end_entry p k j
  pub before : (k : ℕ) → k < half_count p * suc (column_count p) → number_at new k ≡ number_at old k
  pub after : (k : ℕ) → slack_count p * suc (column_count p) ≤ k → number_at new k ≡ number_at old k

pub record IsZeroFrom (cells : List Frac) (s : ℕ) : Type 0 where
  pub zero : (k : ℕ) → s ≤ k → number_at cells k ≡ zero_ℚ

pub record AreSizes (p : Program) (s : Sizes) : Type 0 where
  pub columns : s.columns ≡ column_count p
  pub halves : s.halves ≡ half_count p
  pub slacks : s.slacks ≡ slack_count p
  pub numbers : s.numbers ≡ number_count p
  pub small : suc (number_count p) < 2 ^ 32
  pub area : s.area ≡ suc (slack_count p) * suc (column_count p)

-- the numbers from the first on
pub record IsCounting (numbers : List ℕ) (start end : ℕ) : Type 0 where
  pub long : start + length numbers ≡ suc end
  pub exact : (k : ℕ) → k < length numbers → slice_index_or numbers k 0 ≡ start + k

-- the cells of the first dictionary
pub record AreFirstCells (p : Program) (cells : List Frac) : Type 0 where
  pub long : length cells ≡ suc (slack_count p) * suc (column_count p)
  pub entries : (i j : ℕ) → i < suc (slack_count p) → j < suc (column_count p) → number_at cells (i * suc (column_count p) + j) ≡ first_entry p i j
