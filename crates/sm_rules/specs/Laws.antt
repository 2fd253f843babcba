-- Which lines are lawful. A line whose rules aren't there yet never is.
use Rattle.std.specs.Prelude.{◌≡◌, List, [], length, map, ℤ, Option, None, MatchOption, IfSome}
use Rattle.sm_flat.specs.declared.goal.Sense.TheVariants.{Satisfy}
use Rattle.sm_flat.specs.Models.{FlatModel}
use Rattle.sm_flat.specs.Assignments.{point, point_of}
use Rattle.sm_flat.specs.Assignments.{Numbers, IsAssignment}
use Rattle.sm_flat.specs.Goals.{goal_at, IsBetter, HasValues}
use Rattle.sm_flat.specs.Solutions.{Solves}
use Rattle.sm_step.specs.declared.line.Line.{Line}
use Rattle.sm_step.specs.declared.line.Line.TheVariants as line
use Rattle.sm_step.specs.declared.verdict.Verdict.{Verdict}
use Rattle.sm_step.specs.declared.verdict.Verdict.TheVariants.{Optimal, Satisfied, Infeasible, Limit, Range}
use Rattle.sm_step.specs.Verdicts.{parts_of}
use Rattle.sm_rows.specs.Inferences.{IsInference}
use Rattle.sm_rules.specs.Floors.{EndsNode, numbers_of}
use Rattle.sm_rules.specs.Objectives.{levels}
use Rattle.sm_rules.specs.Nodes.{LawfulChild}
use Rattle.sm_rules.specs.Trees.{node_at, focus_of, IsRefuted}
use Rattle.sm_rules.specs.Violations.{IsViolated}
use Rattle.sm_rules.specs.States.{State, current}
use Rattle.sm_rules.specs.Orders.{IsDue}

-- there is a best, and these floors end a node
abbrev pub BeatsBest : FlatModel → List (ℤ × ℤ) → Option Numbers → Type 0
BeatsBest m floors best = MatchOption best ⊥ (λ b. EndsNode (numbers_of floors) (levels m (point_of b)))

-- the numbers are an assignment, one value a variable, that solves the model and is better than the best
pub record IsNextBest (m : FlatModel) (best : Option Numbers) (denominator : ℤ) (values : List ℤ) : Type 0 where
  pub fit : IsAssignment denominator values
  pub each : length values ≡ length m.vars
  pub solves : Solves m (point denominator values)
  pub better : IfSome best (λ b. IsBetter m (point denominator values) (point_of b))

abbrev pub AsksForAny : FlatModel → Type 0
AsksForAny m = (goal_at m 0).sense ≡ Satisfy

abbrev pub LawfulVerdict : FlatModel → State → Verdict → Type 0
LawfulVerdict m s (Optimal values) = (AsksForAny m → ⊥) × MatchOption s.best ⊥ (λ b. HasValues m (point_of b) (map parts_of values)) × IsRefuted s.main
LawfulVerdict m s Satisfied = AsksForAny m × MatchOption s.best ⊥ (λ b. Unit {0})
LawfulVerdict m s Infeasible = (s.best ≡ None) × IsRefuted s.main
LawfulVerdict m s (Limit nodes bound best) = ⊥
LawfulVerdict m s (Range bound best) = ⊥

abbrev pub Lawful : FlatModel → State → Line → Type 0
Lawful m s (line.Header version) = version ≡ 1
Lawful m s (line.Node id parent literal) = LawfulChild (node_at (current s).nodes parent).store (node_at (current s).nodes parent).status literal
Lawful m s (line.Infer r outcome) = IsInference m (focus_of (current s)).store r outcome
Lawful m s (line.Floor terms) = terms ≡ []
Lawful m s line.CloseFloor = BeatsBest m (focus_of (current s)).floors s.best
Lawful m s (line.Violated k) = IsViolated m (focus_of (current s)).store k
Lawful m s (line.Sol denominator values) = IsNextBest m s.best denominator values
Lawful m s (line.Verdict v) = LawfulVerdict m s v
Lawful m s _ = ⊥

pub record Allowed (m : FlatModel) (s : State) (l : Line) : Type 0 where
  pub due : IsDue s l
  pub law : Lawful m s l
