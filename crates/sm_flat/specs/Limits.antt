-- What every flat model keeps: its limits, and that its variables, constraints and goals fit each other.
use Rattle.std.specs.Prelude.{◌≡◌, ℕ, ◌+◌, ◌<◌, ◌≤◌, List, [], length, ℤ, pos, All, Bool, if◌then◌else◌, sum_by, slice_index_or}
use Rattle.std.specs.List.{list_any}
use Rattle.sm_kinds.specs.declared.var.Var.{Var}
use Rattle.sm_kinds.specs.Limits.{IsSmall, most_variables, most_widths, most_reals, most_constraints, most_total, most_real_rows, most_goals, most_goal_terms}
use Rattle.sm_kinds.specs.Sums.{IsSum}
use Rattle.sm_kinds.specs.Vars.{IsDomain, set_width, is_real, is_real_kind, IsDiscrete}
use Rattle.sm_flat.specs.declared.form.Constraint.{Constraint}
use Rattle.sm_flat.specs.declared.form.Form.{Form}
use Rattle.sm_flat.specs.declared.form.Form.TheVariants as form
use Rattle.sm_flat.specs.declared.goal.Goal.{Goal}
use Rattle.sm_flat.specs.declared.goal.Sense.{Sense}
use Rattle.sm_flat.specs.declared.goal.Sense.TheVariants.{Minimise, Maximise, Satisfy}
use Rattle.sm_flat.specs.Forms.{IsConstraint, size_of}
use Rattle.sm_flat.specs.Goals.{no_goal}
use Rattle.sm_flat.specs.Models.{FlatModel}

-- ---- variables

-- 1 of a real variable
abbrev pub one_if_real : Var → ℕ
one_if_real v = if is_real_kind v.kind then 1 else 0

pub record AreVars (vars : List Var) : Type 0 where
  pub few : length vars ≤ most_variables
  pub each : All (λ (v : Var). IsDomain v.kind v.values) vars
  pub widths : sum_by (λ (v : Var). set_width v.kind v.values) vars ≤ most_widths
  pub reals : sum_by one_if_real vars ≤ most_reals

-- ---- constraints

-- some term is of a real variable
abbrev pub has_real : List Var → List (ℕ × ℤ) → Bool
has_real vars terms = list_any (λ t. is_real vars t.0) terms

-- 1 of a linear or `when` constraint with a real variable
abbrev pub one_if_real_row : List Var → Form → ℕ
one_if_real_row vars (form.Linear row) = if has_real vars row.terms then 1 else 0
one_if_real_row vars (form.When literals row) = if has_real vars row.terms then 1 else 0
one_if_real_row vars (form.Logic clauses) = 0
one_if_real_row vars (form.Alldiff positions) = 0
one_if_real_row vars (form.Element x entries z) = 0
one_if_real_row vars (form.IndexSum choice) = 0
one_if_real_row vars (form.Cumulative capacity tasks) = 0
one_if_real_row vars (form.Disjunctive tasks) = 0
one_if_real_row vars (form.Packing packing) = 0
one_if_real_row vars (form.Circuit successors) = 0
one_if_real_row vars (form.Assign choice) = 0

pub record AreConstraints (vars : List Var) (constraints : List Constraint) : Type 0 where
  pub few : length constraints ≤ most_constraints
  pub each : All (IsConstraint vars) constraints
  pub total : sum_by (λ (c : Constraint). size_of c.form) constraints ≤ most_total
  pub real_rows : sum_by (λ (c : Constraint). one_if_real_row vars c.form) constraints ≤ most_real_rows

-- ---- goals

pub record IsGoal (vars : List Var) (g : Goal) : Type 0 where
  pub sum : IsSum vars g.terms
  pub few : length g.terms ≤ most_goal_terms
  pub small : IsSmall g.constant

-- a goal that asks for any solution stands alone, and is 0
abbrev pub StandsAlone : ℕ → Goal → Sense → Type 0
StandsAlone count g Minimise = Unit {0}
StandsAlone count g Maximise = Unit {0}
StandsAlone count g Satisfy = (count ≡ 1) × (g.terms ≡ []) × (g.constant ≡ pos 0)

-- no goal but the last is of a real variable
abbrev pub RealsLast : List Var → List Goal → Type 0
RealsLast vars goals = (k : ℕ) → k + 1 < length goals → All (λ t. IsDiscrete vars t.0) (slice_index_or goals k no_goal).terms

pub record AreGoals (vars : List Var) (goals : List Goal) : Type 0 where
  pub some : 0 < length goals
  pub few : length goals ≤ most_goals
  pub each : All (IsGoal vars) goals
  pub alone : All (λ g. StandsAlone (length goals) g g.sense) goals
  pub reals : RealsLast vars goals

-- all limits hold, and the parts fit each other
pub record IsFlat (m : FlatModel) : Type 0 where
  pub vars : AreVars m.vars
  pub constraints : AreConstraints m.vars m.constraints
  pub goals : AreGoals m.vars m.goals
