-- What the answers say.
use Rattle.std.specs.Prelude.{◌≡◌, ℕ, ℤ, ◌<◌, ◌+◌, map, List, [], ◌∷◌, if◌then◌else◌, unsigned_abs, ◌==◌}
use Rattle.sm_frac.specs.Rational.{ℚ, ◌-ℚ◌, ◌≤ℚ◌, neg_ℚ, zero_ℚ, one_ℚ}
use Rattle.sm_frac.specs.Frac.{value_of}
use Rattle.sm_certificate.specs.declared.program.Program.{Program}
use Rattle.sm_certificate.specs.declared.program.LpRow.{LpRow}
use Rattle.sm_lp.specs.declared.answer.LpAnswer.{LpAnswer}
use Rattle.sm_lp.specs.declared.answer.LpAnswer.TheVariants.{Optimal, Infeasible, Passed}
use Rattle.sm_lp.specs.Dictionary.{Dictionary, value_at}
use Rattle.sm_lp.specs.Moves.{IsOptimal, IsInfeasible}
use Rattle.sm_certificate.specs.Program.{column_count, cost_of, Satisfies, point_value}
use Rattle.sm_certificate.specs.Certificate.{IsOptimalPair, ShowsNoPoint}
use Rattle.sm_certificate.specs.Slacks.{slack_count}
use Rattle.sm_lp.specs.Steps.{IsPassingStep, Stands, column_value, IsDenominator, IsLeastCommon}
use Rattle.sm_lp.specs.Path.{IsOnPath, basis_of}

-- the coefficient of number y in the goal
unfoldable pub goal_coefficient : Program → Dictionary → ℕ → ℚ
goal_coefficient p d y = value_at (column_count p) d.nonbasic (d.entry (slack_count p)) y zero_ℚ

-- the coefficient of number y in row r after the row's own number is brought to its side: 1 for that number, the others turned in sign
unfoldable pub turned_coefficient : Program → Dictionary → ℕ → ℕ → ℚ
turned_coefficient p d r y = if d.basic r == y then one_ℚ else neg_ℚ (value_at (column_count p) d.nonbasic (d.entry r) y zero_ℚ)

-- the multipliers of the rows by those of their slacks, numbered from k on: an equality's is that of the row less that of the turned row
unfoldable pub row_multipliers : List LpRow → (ℕ → ℚ) → ℕ → List ℚ
row_multipliers [] slack k = []
row_multipliers (row ∷ rows) slack k = if row.equal then (slack k -ℚ slack (k + 1)) ∷ row_multipliers rows slack (k + 2) else slack k ∷ row_multipliers rows slack (k + 1)

abbrev pub multipliers_of : Program → (ℕ → ℚ) → List ℚ
multipliers_of p slack = row_multipliers p.rows slack (column_count p)

-- The last dictionary of the path that the answer is of.
abbrev pub EndsPath : Program → LpAnswer → Type 0
EndsPath p (Optimal basis denominator point multipliers) =
    (d : Dictionary) × IsOnPath p d × IsOptimal d (column_count p) (slack_count p) × (basis.items ≡ basis_of p d)
    × (map value_of multipliers.items ≡ multipliers_of p (goal_coefficient p d))
    × ((j : ℕ) → j < column_count p → point_value point.items denominator j ≡ column_value p d j)
EndsPath p (Infeasible basis multipliers) =
    (d : Dictionary) × (r : ℕ) × IsOnPath p d × IsInfeasible d (column_count p) (slack_count p) r × (basis.items ≡ basis_of p d)
    × (map value_of multipliers.items ≡ multipliers_of p (turned_coefficient p d r))
EndsPath p (Passed basis passed) =
    (d : Dictionary) × IsOnPath p d × IsPassingStep p d passed.op passed.left passed.right × (basis.items ≡ basis_of p d)

-- The point satisfies the program, and the multipliers show that no point costs less. The denominator is the least that the columns have in common.
pub record IsOptimum (p : Program) (denominator : ℤ) (point : List ℤ) (multipliers : List ℚ) : Type 0 where
  pub pair : IsOptimalPair p denominator point multipliers
  pub least : (x : ℕ → ℚ) → Satisfies p x → cost_of p (point_value point denominator) ≤ℚ cost_of p x
  pub common : (denominators : ℕ → ℕ) × ((j : ℕ) → j < column_count p → IsDenominator (point_value point denominator j) (denominators j)) × IsLeastCommon (column_count p) denominators (unsigned_abs denominator)

-- The multipliers show that no point satisfies the program.
pub record IsContradiction (p : Program) (multipliers : List ℚ) : Type 0 where
  pub shows : ShowsNoPoint p multipliers
  pub none : (x : ℕ → ℚ) → Satisfies p x → ⊥

-- what an answer says of the program itself
abbrev pub IsRight : Program → LpAnswer → Type 0
IsRight p (Optimal basis denominator point multipliers) = IsOptimum p denominator point.items (map value_of multipliers.items)
IsRight p (Infeasible basis multipliers) = IsContradiction p (map value_of multipliers.items)
IsRight p (Passed basis passed) = Unit {0}

abbrev pub IsPassed : LpAnswer → Type 0
IsPassed (Optimal basis denominator point multipliers) = ⊥
IsPassed (Infeasible basis multipliers) = ⊥
IsPassed (Passed basis passed) = Unit {0}

-- where the answer names no step, none passes on the whole path
abbrev pub IsExact : Program → LpAnswer → Type 0
IsExact p (Optimal basis denominator point multipliers) = (d : Dictionary) → IsOnPath p d → Stands p d
IsExact p (Infeasible basis multipliers) = (d : Dictionary) → IsOnPath p d → Stands p d
IsExact p (Passed basis passed) = Unit {0}
