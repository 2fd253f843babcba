-- The programs that can be solved.
use Rattle.std.specs.Prelude.{◌≡◌, ◌≢◌, ℕ, ℤ, ◌<◌, ◌≤◌, ◌^◌, ◌≤ℤ◌, length, All, AllPairs, count_by, ◌==◌, not, suc, unsigned_abs, List, slice_index_or}
use Rattle.sm_certificate.specs.declared.program.Program.{Program}
use Rattle.sm_certificate.specs.declared.program.LpRow.{LpRow}
use Rattle.sm_certificate.specs.Program.{column_count}
use Rattle.sm_certificate.specs.Slacks.{number_count}

-- the ends of a column are in order and within 2 ^ 31
pub record IsBox (box : ℤ × ℤ) : Type 0 where
  pub ordered : box.0 ≤ℤ box.1
  pub least : unsigned_abs box.0 ≤ 2 ^ 31
  pub greatest : unsigned_abs box.1 ≤ 2 ^ 31

-- a term names one of n columns, with a number within 2 ^ 42
pub record IsTerm (n : ℕ) (t : ℕ × ℤ) : Type 0 where
  pub column : t.0 < n
  pub small : unsigned_abs t.1 ≤ 2 ^ 42

-- the terms name different columns, and the bound is within 2 ^ 80
pub record IsProgramRow (n : ℕ) (row : LpRow) : Type 0 where
  pub terms : All (IsTerm n) row.terms
  pub different : AllPairs (λ s t. s.0 ≢ t.0) row.terms
  pub bound : unsigned_abs row.bound ≤ 2 ^ 80

-- The programs that can be solved: every number of the first dictionary is then in the range of a fraction, and 32 bits number the columns, the slacks, the goal and the constant.
pub record IsSolvable (p : Program) : Type 0 where
  pub costs : length p.cost ≡ column_count p
  pub boxes : All IsBox p.columns
  pub rows : All (IsProgramRow (column_count p)) p.rows
  pub small_costs : All (λ c. unsigned_abs c ≤ 2 ^ 42) p.cost
  pub shifted : count_by (λ (box : ℤ × ℤ). not (unsigned_abs box.0 == 0)) p.columns < 2 ^ 20
  pub numbered : suc (number_count p) < 2 ^ 32

-- there is a cost for each column, and the columns' ends and costs are small
pub record AreColumns (columns : List (ℤ × ℤ)) (costs : List ℤ) : Type 0 where
  pub costs_long : length costs ≡ length columns
  pub boxes : All IsBox columns
  pub small_costs : All (λ c. unsigned_abs c ≤ 2 ^ 42) costs
  pub shifted : count_by (λ (box : ℤ × ℤ). not (unsigned_abs box.0 == 0)) columns < 2 ^ 20

-- the term at place k, among the first so many, names the column
pub record HasColumn (terms : List (ℕ × ℤ)) (count column k : ℕ) : Type 0 where
  pub inside : k < count
  pub names : (d : ℕ × ℤ) → (slice_index_or terms k d).0 ≡ column

-- none of the first so many terms names the column
pub record LacksColumn (terms : List (ℕ × ℤ)) (count column : ℕ) : Type 0 where
  pub none : (k : ℕ) (d : ℕ × ℤ) → k < count → (slice_index_or terms k d).0 ≢ column
