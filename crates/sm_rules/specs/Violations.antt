-- A constraint whose variables are all fixed, and which fails.
use Rattle.std.specs.Prelude.{◌≡◌, ℕ, List, Some, IsSome, slice_get}
use Rattle.sm_flat.specs.declared.form.Constraint.{Constraint}
use Rattle.sm_flat.specs.declared.form.Form.{Form}
use Rattle.sm_flat.specs.Forms.{Sat, EachVar}
use Rattle.sm_flat.specs.Models.{FlatModel}
use Rattle.sm_store.specs.Stores.{Extent, fixed_at, fixed_point}

-- each variable of the constraint has one value alone
abbrev pub AreFixed : List Extent → Form → Type 0
AreFixed store f = EachVar (λ i. IsSome (fixed_at store i)) f

pub record IsViolated (m : FlatModel) (store : List Extent) (k : ℕ) : Type 0 where
  pub constraint : Constraint
  pub is : slice_get m.constraints k ≡ Some constraint
  pub fixed : AreFixed store constraint.form
  pub fails : Sat constraint.form (fixed_point store) → ⊥
