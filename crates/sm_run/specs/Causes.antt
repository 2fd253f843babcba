-- Files of a model, and why they have no flat model that can be searched.
use Rattle.std.specs.Prelude.{◌≡◌, ◌⊎◌, ◌<◌, ℕ, pos, List, length, Some, None, is_some, slice_get, Bool, true, ◌||◌}
use Rattle.std.specs.List.{list_any}
use Rattle.sm_base.specs.Causes.{Rose}
use Rattle.sm_kinds.specs.declared.var.Var.{Var}
use Rattle.sm_kinds.specs.Vars.{is_real_kind}
use Rattle.sm_flat.specs.declared.form.Constraint.{Constraint}
use Rattle.sm_flat.specs.Models.{FlatModel}
use Rattle.sm_data.specs.declared.refusal.Counted.TheVariants as counted
use Rattle.sm_data.specs.declared.refusal.DataCause.{DataCause}
use Rattle.sm_data.specs.Documents.{Entry}
use Rattle.sm_syntax.specs.Trees.{Tree}
use Rattle.sm_meaning.specs.declared.refusal.ExpandRefusal.TheVariants as refusal
use Rattle.sm_meaning.specs.Models.{refusal_in}
use Rattle.sm_loading.specs.declared.refusal.LoadRefusal.{LoadRefusal}
use Rattle.sm_loading.specs.declared.refusal.LoadRefusal.TheVariants as load
use Rattle.sm_loading.specs.Loading.{Held, IsLoaded, IsLoadCause}
use Rattle.sm_expand.specs.Expanding.{IsFlatOf}
use Rattle.sm_reports.specs.declared.error.ErrorLine.{ErrorLine}
use Rattle.sm_reports.specs.declared.error.ErrorLine.TheVariants as error

-- this holds of the tree and the tables that the files come to
pub record OfFiles (held : Held) (model : List ℕ) (files : List (List ℕ)) (P : Tree → List Entry → Type 0) : Type 0 where
  pub whole : Tree
  pub tables : List Entry
  pub loaded : IsLoaded held model files whole tables
  pub holds : P whole tables

-- nothing is refused of the text with its tables, and this is its flat model
pub record IsModelOf (whole : Tree) (tables : List Entry) (m : FlatModel) : Type 0 where
  pub none : refusal_in whole tables ≡ None
  pub flat : IsFlatOf whole tables m

-- this holds of the text, its tables and its flat model
pub record OfModel (held : Held) (model : List ℕ) (files : List (List ℕ)) (P : Tree → List Entry → FlatModel → Type 0) : Type 0 where
  pub whole : Tree
  pub tables : List Entry
  pub flat : FlatModel
  pub loaded : IsLoaded held model files whole tables
  pub is : IsModelOf whole tables flat
  pub holds : P whole tables flat

-- some variable is real, or some constraint is of a subproblem: as yet no search takes such a model
abbrev pub is_early : FlatModel → Bool
is_early m = list_any (λ (v : Var). is_real_kind v.kind) m.vars || list_any (λ (c : Constraint). is_some c.tags.sub) m.constraints

abbrev pub IsEarly : FlatModel → Type 0
IsEarly m = is_early m ≡ true

-- this data file is refused, which has this number
pub record IsDataCause (held : Held) (model : List ℕ) (files : List (List ℕ)) (before now : ℕ) (file : List ℕ) (cause : DataCause) : Type 0 where
  pub number : ℕ
  pub named : slice_get files number ≡ Some file
  pub refused : IsLoadCause held model files before now (load.Data number cause)

-- Why files have no flat model, as it is told. The first thing that is refused is told: in the files, in their order, and then in what
-- the text means with its tables. Want of memory needs no cause.
abbrev pub IsModelCause : Held → List ℕ → List (List ℕ) → ℕ → ℕ → ErrorLine → Type 0
IsModelCause held model files before now error.Usage = ⊥
IsModelCause held model files before now error.Read = Rose before now
IsModelCause held model files before now error.Memory = Unit {0}
IsModelCause held model files before now (error.Syntax line column) = IsLoadCause held model files before now (load.Syntax line column)
IsModelCause held model files before now (error.Model line column what) = OfFiles held model files (λ whole tables. refusal_in whole tables ≡ Some (refusal.Meaning line column what))
IsModelCause held model files before now (error.Data file cause) = IsDataCause held model files before now file.now cause
IsModelCause held model files before now (error.Limit what found bound) =
    IsLoadCause held model files before now (load.Limit what found bound)
    ⊎ OfFiles held model files (λ whole tables. refusal_in whole tables ≡ Some (refusal.Limit what found bound))

-- too many data files, which are told before anything is read
abbrev pub files_limit : ErrorLine
files_limit = error.Limit counted.Files (pos 65) (pos 64)

-- why files have no flat model, as it is told first
pub record IsRefusal (held : Held) (model : List ℕ) (files : List (List ℕ)) (before now : ℕ) (line : ErrorLine) : Type 0 where
  pub cause : IsModelCause held model files before now line
  pub first : 64 < length files → (line ≡ files_limit) ⊎ (line ≡ error.Memory)

-- ---- on the way

-- the number of a data file is that of one
abbrev pub IsOfFiles : ℕ → LoadRefusal → Type 0
IsOfFiles n (load.Data file cause) = file < n
IsOfFiles n _ = Unit {0}

-- why a text has no flat model, as it is told
abbrev pub IsExpandCause : Tree → List Entry → ErrorLine → Type 0
IsExpandCause whole tables error.Memory = Unit {0}
IsExpandCause whole tables (error.Model line column what) = refusal_in whole tables ≡ Some (refusal.Meaning line column what)
IsExpandCause whole tables (error.Limit what found bound) = refusal_in whole tables ≡ Some (refusal.Limit what found bound)
IsExpandCause whole tables _ = ⊥

-- this is the flat model of what the files come to
abbrev pub IsFlatOfFiles : Held → List ℕ → List (List ℕ) → FlatModel → Type 0
IsFlatOfFiles held model files m = OfFiles held model files (λ whole tables. IsModelOf whole tables m)
