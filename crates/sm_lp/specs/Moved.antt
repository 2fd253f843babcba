-- What a move makes of a table.
use Rattle.std.specs.Prelude.{◌≡◌, ◌≢◌, ℕ, ◌<◌, ◌*◌, ◌+◌, ◌≤◌, length, List}
use Rattle.sm_frac.specs.Rational.{neg_ℚ, ◌*ℚ◌, ◌-ℚ◌}
use Rattle.sm_frac.specs.Frac.{value_of}
use Rattle.sm_frac.specs.Passes.{Passes}
use Rattle.sm_frac.specs.declared.fraction.Frac.{Frac}
use Rattle.sm_frac.specs.declared.operation.Op.{Op}
use Rattle.sm_frac.specs.declared.operation.Op.TheVariants.{Over, Times, Minus}
use Rattle.sm_frac.specs.declared.operation.RangePassed.{RangePassed}
use Rattle.sm_lp.specs.declared.table.Table.{Table}
use Rattle.sm_lp.specs.declared.pivot.Moved.{Moved}
use Rattle.sm_lp.specs.declared.pivot.Moved.TheVariants.{Turned, Passed}
use Rattle.sm_lp.specs.Dictionary.{Dictionary, pivot}
use Rattle.sm_certificate.specs.Numbers.{number_at}
use Rattle.sm_lp.specs.Steps.{IsPivotStep, dividend, quotient}
use Rattle.sm_lp.specs.Table.{dictionary_of, IsRowPassed}
use Rattle.sm_certificate.specs.Fine.{IsFine}

-- the list has the quotients of the row r by its entry in column c, and no division passed
pub record AreQuotients (d : Dictionary) (r c : ℕ) (quotients : List Frac) : Type 0 where
  pub long : length quotients ≡ d.width
  pub exact : (j : ℕ) → j < d.width → number_at quotients j ≡ quotient d r c j
  pub fine : (j : ℕ) → j < d.width → IsFine Over (dividend d r c j) (d.entry r c)

-- a step of the move that passes
pub record IsPassedMove (d : Dictionary) (r c : ℕ) (op : Op) (left right : Frac) : Type 0 where
  pub step : IsPivotStep d r c op (value_of left) (value_of right)
  pub passes : Passes op left right

-- every row but row r is eliminated, and that is as it was
pub record AreEliminated (old new quotients : List Frac) (h r c : ℕ) : Type 0 where
  pub long : length new ≡ length old
  pub column : (i : ℕ) → i < h → i ≢ r → number_at new (i * length quotients + c) ≡ number_at old (i * length quotients + c) *ℚ number_at quotients c
  pub others : (i j : ℕ) → i < h → i ≢ r → j < length quotients → j ≢ c → number_at new (i * length quotients + j) ≡ number_at old (i * length quotients + j) -ℚ number_at old (i * length quotients + c) *ℚ number_at quotients j
  pub own : (j : ℕ) → j < length quotients → number_at new (r * length quotients + j) ≡ number_at old (r * length quotients + j)
  pub products : (i j : ℕ) → i < h → i ≢ r → j < length quotients → IsFine Times (number_at old (i * length quotients + c)) (number_at quotients j)
  pub differences : (i j : ℕ) → i < h → i ≢ r → j < length quotients → j ≢ c → IsFine Minus (number_at old (i * length quotients + j)) (number_at old (i * length quotients + c) *ℚ number_at quotients j)

-- a step of one of these eliminations that passes
pub record IsSomeRowPassed (old quotients : List Frac) (h r c : ℕ) (op : Op) (left right : Frac) : Type 0 where
  pub row : ℕ
  pub inside : row < h
  pub other : row ≢ r
  pub passed : IsRowPassed old quotients (row * length quotients) c op left right

-- the row at the place s holds the quotients turned in sign, and in column c the quotient itself
pub record IsTurnedRow (old new quotients : List Frac) (s c : ℕ) : Type 0 where
  pub long : length new ≡ length old
  pub column : c < length quotients → number_at new (s + c) ≡ number_at quotients c
  pub others : (j : ℕ) → j < length quotients → j ≢ c → number_at new (s + j) ≡ neg_ℚ (number_at quotients j)
  pub before : (k : ℕ) → k < s → number_at new k ≡ number_at old k
  pub after : (k : ℕ) → s + length quotients ≤ k → number_at new k ≡ number_at old k

abbrev pub IsPassedAt : Table → RangePassed → Moved → Type 0
IsPassedAt t e (Turned new) = ⊥
IsPassedAt t e (Passed basic passed) = (basic ≡ t.basic) × (passed ≡ e)

-- no step of the move passes
abbrev pub MoveStands : Dictionary → ℕ → ℕ → Type 0
MoveStands d r c = (op : Op) (left right : Frac) → IsPassedMove d r c op left right → ⊥

-- the table after the move, or the basic numbers before it and a step that passes
abbrev pub IsMoved : Table → ℕ → ℕ → Moved → Type 0
IsMoved t r c (Turned new) = (dictionary_of new ≡ pivot (dictionary_of t) r c) × MoveStands (dictionary_of t) r c × (new.goal ≡ t.goal) × (new.constant ≡ t.constant)
IsMoved t r c (Passed basic passed) = (basic ≡ t.basic) × IsPassedMove (dictionary_of t) r c passed.op passed.left passed.right
