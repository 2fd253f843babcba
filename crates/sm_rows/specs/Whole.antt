-- What the code of the rules may take of a store and of literals.
use Rattle.std.specs.Prelude.{◌≢◌, ℕ, ◌<◌, ◌≤◌, ◌^◌, List, length, All, unsigned_abs}
use Rattle.sm_kinds.specs.declared.literal.Literal.{Literal}
use Rattle.sm_kinds.specs.declared.var.VarKind.TheVariants.{Real}
use Rattle.sm_flat.specs.declared.form.Form.{Form}
use Rattle.sm_flat.specs.Forms.{IsForm}
use Rattle.sm_flat.specs.Models.{FlatModel}
use Rattle.sm_store.specs.Stores.{Extent, extent_at, IsOrdered, IsStoreOf}

-- a store's domains are ordered
abbrev pub AreOrdered : List Extent → Type 0
AreOrdered store = (i : ℕ) → i < length store → IsOrdered (extent_at store i).kind (extent_at store i).values

-- the literal is of a variable of the store, which has whole values
pub record IsWholeVar (store : List Extent) (l : Literal) : Type 0 where
  pub known : l.var < length store
  pub discrete : (extent_at store l.var).kind ≢ Real

-- the bounds of the literals leave room for their complements
abbrev pub AreNear : List Literal → Type 0
AreNear ls = All (λ (l : Literal). unsigned_abs l.bound ≤ 2 ^ 32) ls

abbrev pub AreWholeVars : List Extent → List Literal → Type 0
AreWholeVars store ls = All (IsWholeVar store) ls

-- the constraint fits a model of which the store is
pub record IsFormIn (store : List Extent) (f : Form) : Type 0 where
  pub model : FlatModel
  pub of : IsStoreOf model store
  pub fits : IsForm model.vars f
