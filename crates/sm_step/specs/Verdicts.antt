-- When a verdict is true of a model.
use Rattle.std.specs.Prelude.{◌≡◌, List, map, ℤ, ◌*ℤ◌, ◌≤ℤ◌, Option, None, MatchOption}
use Rattle.sm_frac.specs.declared.fraction.Frac.{Frac}
use Rattle.sm_flat.specs.declared.goal.Goal.{Goal}
use Rattle.sm_flat.specs.declared.goal.Sense.{Sense}
use Rattle.sm_flat.specs.declared.goal.Sense.TheVariants.{Minimise, Maximise, Satisfy}
use Rattle.sm_flat.specs.Models.{FlatModel}
use Rattle.sm_kinds.specs.Points.{Point}
use Rattle.sm_flat.specs.Assignments.{point_of}
use Rattle.sm_flat.specs.Assignments.{Numbers}
use Rattle.sm_flat.specs.Goals.{goal_at, worth, HasValues}
use Rattle.sm_flat.specs.Solutions.{Solves, IsOptimum, HasNoSolution}
use Rattle.sm_step.specs.declared.verdict.Verdict.{Verdict}
use Rattle.sm_step.specs.declared.verdict.Verdict.TheVariants.{Optimal, Satisfied, Infeasible, Limit, Range}

-- numerator and denominator
abbrev pub parts_of : Frac → ℤ × ℤ
parts_of f = (f.n, f.d)

-- the goal's value is no better than the bound
abbrev pub IsNoBetter : Goal → Sense → Point → Frac → Type 0
IsNoBetter g Minimise a bound = (bound.n *ℤ a.denominator) ≤ℤ (worth g a *ℤ bound.d)
IsNoBetter g Maximise a bound = (worth g a *ℤ bound.d) ≤ℤ (bound.n *ℤ a.denominator)
IsNoBetter g Satisfy a bound = (bound.n *ℤ a.denominator) ≤ℤ (worth g a *ℤ bound.d)

-- no solution has a first value that is better than the bound
abbrev pub Bounds : FlatModel → Frac → Type 0
Bounds m bound = (a : Point) → Solves m a → IsNoBetter (goal_at m 0) (goal_at m 0).sense a bound

-- the printed best is a solution of the printed values; where none is printed there is none
abbrev pub IsBest : FlatModel → Option Numbers → Option (List Frac) → Type 0
IsBest m best printed = MatchOption printed (best ≡ None) (λ values. MatchOption best ⊥ (λ b. Solves m (point_of b) × HasValues m (point_of b) (map parts_of values)))

abbrev pub IsTrueOf : FlatModel → Option Numbers → Verdict → Type 0
IsTrueOf m best (Optimal values) = MatchOption best ⊥ (λ b. IsOptimum m (point_of b) (map parts_of values))
IsTrueOf m best Satisfied = MatchOption best ⊥ (λ b. Solves m (point_of b))
IsTrueOf m best Infeasible = HasNoSolution m
IsTrueOf m best (Limit nodes bound printed) = IsBest m best printed × Bounds m bound
IsTrueOf m best (Range bound printed) = IsBest m best printed × Bounds m bound
