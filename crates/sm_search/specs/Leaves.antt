-- A node whose variables are all fixed.
use Rattle.std.specs.Prelude.{◌≡◌, ℕ, ◌<◌, ◌≤◌, List, length, map, ℤ, pos, Some, IsSome, slice_get}
use Rattle.sm_flat.specs.declared.form.Constraint.{Constraint}
use Rattle.sm_flat.specs.Models.{FlatModel}
use Rattle.sm_flat.specs.declared.goal.Goal.{Goal}
use Rattle.sm_flat.specs.Goals.{worth}
use Rattle.sm_kinds.specs.Points.{Point}
use Rattle.sm_flat.specs.Assignments.{point_of}
use Rattle.sm_flat.specs.Assignments.{Numbers}
use Rattle.sm_flat.specs.Forms.{Sat}
use Rattle.sm_store.specs.Stores.{Extent, extent_at, least_of, fixed_at, size_in}

-- each variable has just one value left; no real variable has by its ends alone
abbrev pub AreAllFixed : List Extent → Type 0
AreAllFixed store = (i : ℕ) → i < length store → IsSome (fixed_at store i)

-- the least value of each variable
abbrev pub first_values : List Extent → List ℤ
first_values store = map least_of store

-- the variable has more than one value left; the values of a real variable aren't counted
pub record IsUnfixed (store : List Extent) (i : ℕ) : Type 0 where
  pub known : i < length store
  pub several : 1 < size_in (extent_at store i).kind (extent_at store i).values

-- no variable has
abbrev pub NoneUnfixed : List Extent → Type 0
NoneUnfixed store = (i : ℕ) → i < length store → size_in (extent_at store i).kind (extent_at store i).values ≤ 1

-- each constraint holds at the assignment
pub record HoldsAll (m : FlatModel) (a : Numbers) : Type 0 where
  pub holds : (k : ℕ) (c : Constraint) → slice_get m.constraints k ≡ Some c → Sat c.form (point_of a)

-- constraint k fails at the assignment
pub record FailsConstraint (m : FlatModel) (a : Numbers) (k : ℕ) : Type 0 where
  pub known : k < length m.constraints
  pub fails : (c : Constraint) → slice_get m.constraints k ≡ Some c → Sat c.form (point_of a) → ⊥

-- the numbers are the least value of each variable over 1, and they solve the model
pub record IsSolvedLeaf (m : FlatModel) (store : List Extent) (a : Numbers) : Type 0 where
  pub fixed : AreAllFixed store
  pub is : a ≡ record { denominator = pos 1; values = first_values store }
  pub solves : HoldsAll m a

-- the values of the goals at an assignment of whole values, over 1
abbrev pub whole_values : List Goal → Point → List (ℤ × ℤ)
whole_values goals a = map (λ g. (worth g a, pos 1)) goals
