-- Which variables belong to a subproblem.
use Rattle.std.specs.Prelude.{◌≡◌, ◌≢◌, ℕ, Some, slice_get}
use Rattle.sm_flat.specs.declared.form.Constraint.{Constraint}
use Rattle.sm_flat.specs.declared.form.Form.{Form}
use Rattle.sm_flat.specs.Forms.{EachVar}
use Rattle.sm_flat.specs.Models.{FlatModel}

-- the variable stands in the constraint: not each of its variables is another
pub record Mentions (f : Form) (v : ℕ) : Type 0 where
  pub stands : EachVar (λ x. x ≢ v) f → ⊥

-- all constraints that have the variable are tagged with this subproblem
pub record AllTagged (m : FlatModel) (v g : ℕ) : Type 0 where
  pub each : (k : ℕ) (c : Constraint) → slice_get m.constraints k ≡ Some c → Mentions c.form v → c.tags.sub ≡ Some g

-- some constraint has the variable, and all that have it are tagged with this subproblem; goals don't count
pub record IsSubVariable (m : FlatModel) (v g : ℕ) : Type 0 where
  pub constraint : Constraint
  pub number : ℕ
  pub is : slice_get m.constraints number ≡ Some constraint
  pub mentioned : Mentions constraint.form v
  pub tagged : AllTagged m v g
