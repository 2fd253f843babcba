-- What the goals cost, all taken as minimised: at an assignment, and at least over the boxes of a store.
use Rattle.std.specs.Prelude.{false, ℕ, ◌<◌, ◌≤◌, List, [], ◌∷◌, length, map, All, ℤ, pos, ◌+ℤ◌, ◌*ℤ◌, int_le, unsigned_abs, Bool, true, if◌then◌else◌}
use Rattle.std.specs.List.{list_all}
use Rattle.sm_frac.specs.Rational.{ℚ, fraction}
use Rattle.sm_flat.specs.declared.goal.Goal.{Goal}
use Rattle.sm_flat.specs.declared.goal.Sense.{Sense}
use Rattle.sm_kinds.specs.declared.var.VarKind.{VarKind}
use Rattle.sm_kinds.specs.declared.var.VarKind.TheVariants.{Set, Int, Real}
use Rattle.sm_flat.specs.Models.{FlatModel}
use Rattle.sm_kinds.specs.Vars.{var_at}
use Rattle.sm_kinds.specs.Limits.{IsSmall, most_goal_terms}
use Rattle.sm_kinds.specs.Points.{Point}
use Rattle.sm_flat.specs.Goals.{minimised, cost}
use Rattle.sm_store.specs.Stores.{Extent, extent_at, least_of, greatest_of}
use Rattle.sm_rules.specs.Floors.{Level}

-- the costs of an assignment, goal by goal
abbrev pub costs_by : List Goal → Point → List ℚ
costs_by goals a = map (λ g. fraction (cost g a) (unsigned_abs a.denominator)) goals

abbrev pub costs : FlatModel → Point → List ℚ
costs m a = costs_by m.goals a

-- the goal is a sum of few terms with small coefficients, over the first n variables
pub record IsGoalOver (n : ℕ) (g : Goal) : Type 0 where
  pub known : All (λ t. t.0 < n) g.terms
  pub few : length g.terms ≤ most_goal_terms
  pub small : All (λ t. IsSmall t.1) g.terms
  pub constant : IsSmall g.constant

-- the least product of the coefficient with a number between the ends of the extent
abbrev pub least_product : ℤ → Extent → ℤ
least_product c e = if int_le (pos 0) c then c *ℤ least_of e else c *ℤ greatest_of e

abbrev pub least_sum : Sense → List Extent → List (ℕ × ℤ) → ℤ
least_sum sense store [] = pos 0
least_sum sense store (t ∷ ts) = least_product (minimised sense t.1) (extent_at store t.0) +ℤ least_sum sense store ts

-- the least that the goal costs over the boxes of the store
abbrev pub least_cost : List Extent → Goal → ℤ
least_cost store g = least_sum g.sense store g.terms +ℤ minimised g.sense g.constant

-- these, goal by goal, over 1
abbrev pub least_costs : List Goal → List Extent → List (ℤ × ℤ)
least_costs goals store = map (λ g. (least_cost store g, pos 1)) goals

-- the variable has whole values alone
abbrev pub is_discrete : VarKind → Bool
is_discrete Set = true
is_discrete Int = true
is_discrete Real = false

abbrev pub is_whole : FlatModel → Goal → Bool
is_whole m g = list_all (λ t. is_discrete (var_at m.vars t.0).kind) g.terms

abbrev pub level_of : FlatModel → Point → Goal → Level
level_of m b g = record { best = fraction (cost g b) (unsigned_abs b.denominator); whole = is_whole m g }

-- the best's costs, goal by goal
abbrev pub levels : FlatModel → Point → List Level
levels m b = map (level_of m b) m.goals
