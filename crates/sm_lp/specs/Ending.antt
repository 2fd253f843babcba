-- What the parts of the answer at the end of the path are.
use Rattle.std.specs.Prelude.{◌≡◌, ℕ, ℤ, pos, ◌+◌, ◌<◌, ◌≤◌, ◌≤ℤ◌, ◌^◌, ◌*◌, List, [], ◌∷◌, length, map, slice_index_or, unsigned_abs, Option, Some, None, ◌⊎◌, true, if◌then◌else◌, ◌==◌}
use Rattle.sm_frac.specs.Rational.{ℚ, zero_ℚ, neg_ℚ, one_ℚ, ◌-ℚ◌}
use Rattle.sm_frac.specs.Lowest.{IsLeastMultiple}
use Rattle.sm_frac.specs.Frac.{value_of}
use Rattle.sm_frac.specs.Passes.{Passes}
use Rattle.sm_frac.specs.declared.fraction.Frac.{Frac}
use Rattle.sm_frac.specs.declared.operation.Op.{Op}
use Rattle.sm_frac.specs.declared.operation.Op.TheVariants.{Plus, Lcm}
use Rattle.sm_certificate.specs.declared.program.Program.{Program}
use Rattle.sm_certificate.specs.declared.program.LpRow.{LpRow}
use Rattle.sm_certificate.specs.Numbers.{number_at}
use Rattle.sm_lp.specs.Dictionary.{Dictionary, value_at}
use Rattle.sm_certificate.specs.Program.{column_count, low}
use Rattle.sm_lp.specs.Steps.{constant_of, column_value, IsLeastCommon, JoinsBy}
use Rattle.sm_certificate.specs.Fine.{IsFine}

-- the list has the columns' values, and no sum passed
pub record AreValues (p : Program) (d : Dictionary) (values : List Frac) : Type 0 where
  pub long : length values ≡ column_count p
  pub exact : (j : ℕ) → j < column_count p → number_at values j ≡ column_value p d j
  pub fine : (j : ℕ) → j < column_count p → IsFine Plus (low p j) (constant_of d (column_count p) j)

-- the sum of a column's least end and its constant passes
pub record IsValuePassed (p : Program) (d : Dictionary) (op : Op) (left right : Frac) : Type 0 where
  pub operation : op ≡ Plus
  pub column : ℕ
  pub inside : column < column_count p
  pub left_is : value_of left ≡ low p column
  pub right_is : value_of right ≡ constant_of d (column_count p) column
  pub passes : Passes Plus left right

-- r is the least common multiple of the denominator and those before, and no step of it passed
pub record IsJoined (common denominator r : ℤ) : Type 0 where
  pub least : pos 1 ≤ℤ r
  pub most : r ≤ℤ pos (2 ^ 52)
  pub multiple : IsLeastMultiple (unsigned_abs common) (unsigned_abs denominator) (unsigned_abs r)
  pub fine : (x y : ℚ) → JoinsBy (unsigned_abs common) (unsigned_abs denominator) x y → IsFine Lcm x y

pub record IsJoinPassed (common denominator : ℕ) (op : Op) (left right : Frac) : Type 0 where
  pub operation : op ≡ Lcm
  pub step : JoinsBy common denominator (value_of left) (value_of right)
  pub passes : Passes Lcm left right

-- the denominator of the fraction at place j
abbrev pub denominator_at : List Frac → ℕ → ℕ
denominator_at values j = slice_index_or (map (λ f. unsigned_abs f.d) values) j 0

-- r is the least common multiple of the denominators, and no step of it passed
pub record IsCommon (values : List Frac) (r : ℤ) : Type 0 where
  pub least : pos 1 ≤ℤ r
  pub most : r ≤ℤ pos (2 ^ 52)
  pub common : IsLeastCommon (length values) (denominator_at values) (unsigned_abs r)
  pub fine : (j m : ℕ) (x y : ℚ) → j < length values → IsLeastCommon j (denominator_at values) m → JoinsBy m (denominator_at values j) x y → IsFine Lcm x y

-- a step of the least common multiple passes
pub record IsCommonPassed (values : List Frac) (op : Op) (left right : Frac) : Type 0 where
  pub place : ℕ
  pub inside : place < length values
  pub before : ℕ
  pub common : IsLeastCommon place (denominator_at values) before
  pub most : before ≤ 2 ^ 52
  pub passed : IsJoinPassed before (denominator_at values place) op left right

-- each fraction is at most 2 ^ 31 in absolute value
pub record AreBoxed (values : List Frac) : Type 0 where
  pub boxed : (j : ℕ) (d : Frac) → j < length values → unsigned_abs (slice_index_or values j d).n ≤ 2 ^ 31 * unsigned_abs (slice_index_or values j d).d

-- the multiplier of slack y: its coefficient in the goal, or in an infeasible row after that is brought to the other side
abbrev pub slack_of : ℕ → ℕ → Dictionary → Option ℕ → ℕ → ℚ
slack_of f g d None y = value_at f d.nonbasic (d.entry g) y zero_ℚ
slack_of f g d (Some r) y = if d.basic r == y then one_ℚ else neg_ℚ (value_at f d.nonbasic (d.entry r) y zero_ℚ)

-- the multiplier of a row whose first slack is k: an equality's is that of the row less that of the turned row
abbrev pub multiplier_of : LpRow → (ℕ → ℚ) → ℕ → ℚ
multiplier_of row slack k = if row.equal then slack k -ℚ slack (k + 1) else slack k

-- of the two halves of each equality one has the multiplier 0
unfoldable pub AreApart : List LpRow → (ℕ → ℚ) → ℕ → Type 0
AreApart [] slack k = Unit {0}
AreApart (row ∷ rows) slack k = (row.equal ≡ true → (slack k ≡ zero_ℚ) ⊎ (slack (k + 1) ≡ zero_ℚ)) × AreApart rows slack (if row.equal then k + 2 else k + 1)
