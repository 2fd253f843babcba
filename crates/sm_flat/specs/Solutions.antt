-- Solutions, optima, and models without a solution.
use Rattle.std.specs.Prelude.{◌≡◌, ℕ, ◌<◌, List, length, ℤ, pos, Bool, true, ◌<ℤ◌, Some, slice_get}
use Rattle.sm_flat.specs.declared.form.Constraint.{Constraint}
use Rattle.sm_kinds.specs.Vars.{var_at, LiesIn}
use Rattle.sm_flat.specs.Models.{FlatModel}
use Rattle.sm_kinds.specs.Points.{Point}
use Rattle.sm_flat.specs.Forms.{Sat}
use Rattle.sm_flat.specs.Goals.{IsBetter, HasValues}

-- each value lies in the declared domain of its variable
pub record Fits (m : FlatModel) (a : Point) : Type 0 where
  pub positive : pos 0 <ℤ a.denominator
  pub lies : (i : ℕ) → i < length m.vars → LiesIn (var_at m.vars i).kind (var_at m.vars i).values (a.numerator i) a.denominator

-- the assignment fits, and satisfies each constraint whose number passes the test s
pub record SolvesOn (m : FlatModel) (s : ℕ → Bool) (a : Point) : Type 0 where
  pub fits : Fits m a
  pub satisfies : (k : ℕ) (c : Constraint) → s k ≡ true → slice_get m.constraints k ≡ Some c → Sat c.form a

-- the assignment fits, and satisfies every constraint
pub record Solves (m : FlatModel) (a : Point) : Type 0 where
  pub fits : Fits m a
  pub satisfies : (k : ℕ) (c : Constraint) → slice_get m.constraints k ≡ Some c → Sat c.form a

-- no assignment solves the model
abbrev pub HasNoSolution : FlatModel → Type 0
HasNoSolution m = (a : Point) → Solves m a → ⊥

-- the assignment solves the model with these values, and none that solves it is better
pub record IsOptimum (m : FlatModel) (a : Point) (values : List (ℤ × ℤ)) : Type 0 where
  pub solves : Solves m a
  pub attains : HasValues m a values
  pub best : (b : Point) → Solves m b → IsBetter m b a → ⊥
