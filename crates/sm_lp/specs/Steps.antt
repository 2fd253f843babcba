-- The steps at a basis: the operations on fractions that a pivot, or the end of the path, asks for. The numbers are the operands.
use Rattle.std.specs.Prelude.{◌≡◌, ◌≢◌, ℕ, ◌<◌, ◌≤◌, ◌-◌, ◌^◌, pos, ◌==◌, if◌then◌else◌, ◌⊎◌, unsigned_abs}
use Rattle.std.specs.Int.{◌∣◌}
use Rattle.sm_frac.specs.Rational.{ℚ, ◌+ℚ◌, ◌*ℚ◌, inverse, zero_ℚ, one_ℚ, fraction}
use Rattle.sm_frac.specs.Frac.{value_of}
use Rattle.sm_frac.specs.Lowest.{IsLeastMultiple}
use Rattle.sm_frac.specs.Passes.{Passes}
use Rattle.sm_frac.specs.declared.fraction.Frac.{Frac}
use Rattle.sm_frac.specs.declared.operation.Op.{Op}
use Rattle.sm_frac.specs.declared.operation.Op.TheVariants.{Plus, Minus, Times, Over, Lcm}
use Rattle.sm_certificate.specs.declared.program.Program.{Program}
use Rattle.sm_lp.specs.Dictionary.{Dictionary, value_at}
use Rattle.sm_lp.specs.Moves.{IsMove, IsOptimal}
use Rattle.sm_certificate.specs.Program.{column_count, low}
use Rattle.sm_certificate.specs.Slacks.{slack_count}

-- what is divided by the entry at which the dictionary turns: the row's entries, and 1 in the entering column
unfoldable pub dividend : Dictionary → ℕ → ℕ → ℕ → ℚ
dividend d r c j = if j == c then one_ℚ else d.entry r j

abbrev pub quotient : Dictionary → ℕ → ℕ → ℕ → ℚ
quotient d r c j = dividend d r c j *ℚ inverse (d.entry r c)

-- the steps from a basis at which the number of row r leaves and that of column c enters
abbrev pub IsPivotStep : Dictionary → ℕ → ℕ → Op → ℚ → ℚ → Type 0
IsPivotStep d r c Over x y = (j : ℕ) × (j < d.width) × (x ≡ dividend d r c j) × (y ≡ d.entry r c)
IsPivotStep d r c Times x y = (i : ℕ) × (j : ℕ) × (i < d.height) × (j < d.width) × (i ≢ r) × (x ≡ d.entry i c) × (y ≡ quotient d r c j)
IsPivotStep d r c Minus x y = (i : ℕ) × (j : ℕ) × (i < d.height) × (j < d.width) × (i ≢ r) × (j ≢ c) × (x ≡ d.entry i j) × (y ≡ d.entry i c *ℚ quotient d r c j)
IsPivotStep d r c Plus x y = ⊥
IsPivotStep d r c Lcm x y = ⊥

-- the constant of number y: that of its row, and 0 where it is nonbasic
unfoldable pub constant_of : Dictionary → ℕ → ℕ → ℚ
constant_of d f y = value_at d.height d.basic (λ i. d.entry i f) y zero_ℚ

-- the column's value at the point of the dictionary
abbrev pub column_value : Program → Dictionary → ℕ → ℚ
column_value p d j = low p j +ℚ constant_of d (column_count p) j

-- e is the denominator of x in lowest terms
abbrev pub IsDenominator : ℚ → ℕ → Type 0
IsDenominator x e = (z : Frac) × (value_of z ≡ x) × (unsigned_abs z.d ≡ e)

-- m is the least common multiple of the first k numbers
pub record IsLeastCommon (k : ℕ) (numbers : ℕ → ℕ) (m : ℕ) : Type 0 where
  pub common : (i : ℕ) → i < k → numbers i ∣ m
  pub least : (l : ℕ) → ((i : ℕ) → i < k → numbers i ∣ l) → m ∣ l

abbrev pub natural_ℚ : ℕ → ℚ
natural_ℚ n = fraction (pos n) 1

-- The steps by which the denominator e joins the least common multiple m so far. One above 2 ^ 52 joins as 2 ^ 52 and then 2 ^ 52 - 1, so that both operands of each step are at most 2 ^ 52, and one of the two passes.
abbrev pub JoinsBy : ℕ → ℕ → ℚ → ℚ → Type 0
JoinsBy m e x y =
    ((e ≤ 2 ^ 52) × (x ≡ natural_ℚ m) × (y ≡ natural_ℚ e))
    ⊎ (((2 ^ 52 < e) × (x ≡ natural_ℚ m) × (y ≡ natural_ℚ (2 ^ 52)))
    ⊎ ((2 ^ 52 < e) × IsLeastMultiple m (2 ^ 52) (2 ^ 52) × (x ≡ natural_ℚ (2 ^ 52)) × (y ≡ natural_ℚ (2 ^ 52 - 1))))

-- the steps at an optimal basis: the columns' values, and the least common multiple of their denominators in column order
abbrev pub IsEndStep : Program → Dictionary → Op → ℚ → ℚ → Type 0
IsEndStep p d Plus x y = (j : ℕ) × (j < column_count p) × (x ≡ low p j) × (y ≡ constant_of d (column_count p) j)
IsEndStep p d Lcm x y = (j : ℕ) × (denominators : ℕ → ℕ) × (m : ℕ) × (j < column_count p) × ((i : ℕ) → i ≤ j → IsDenominator (column_value p d i) (denominators i)) × IsLeastCommon j denominators m × (m ≤ 2 ^ 52) × JoinsBy m (denominators j) x y
IsEndStep p d Times x y = ⊥
IsEndStep p d Over x y = ⊥
IsEndStep p d Minus x y = ⊥

-- the steps at a dictionary of the program
abbrev pub IsStep : Program → Dictionary → Op → ℚ → ℚ → Type 0
IsStep p d op x y = ((r : ℕ) × (c : ℕ) × IsMove d (column_count p) (slack_count p) r c × IsPivotStep d r c op x y) ⊎ (IsOptimal d (column_count p) (slack_count p) × IsEndStep p d op x y)

-- the operation on these two fractions is a step at d that passes the range
pub record IsPassingStep (p : Program) (d : Dictionary) (op : Op) (left right : Frac) : Type 0 where
  pub step : IsStep p d op (value_of left) (value_of right)
  pub passes : Passes op left right

-- no step at d passes
abbrev pub Stands : Program → Dictionary → Type 0
Stands p d = (op : Op) (left right : Frac) → IsPassingStep p d op left right → ⊥
