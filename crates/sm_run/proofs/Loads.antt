-- Why files have no flat model, from what refused them to what is told.
use Rattle.std.proofs.Common.{◌≡◌, ◌∙◌, ap, sym, refl, subst, arith, inl, inr, ℕ, ◌+◌, ◌<◌, ◌≤◌, suc, List, ◌∷◌, ◌++◌, length, Some, None, length-append}
use Rattle.std.specs.Prelude.{Result, Ok, Err, IfOk, IfErr}
use Rattle.sm_flat.specs.Models.{FlatModel}
use Rattle.sm_data.specs.Documents.{Entry}
use Rattle.sm_syntax.specs.Trees.{Tree}
use Rattle.sm_loading.specs.declared.refusal.LoadRefusal.{LoadRefusal}
use Rattle.sm_loading.specs.declared.refusal.LoadRefusal.TheVariants as load
use Rattle.sm_loading.specs.Loading.{Held, IsLoaded, IsLoadCause}
use Rattle.sm_reports.specs.declared.error.ErrorLine.{ErrorLine}
use Rattle.sm_reports.specs.declared.error.ErrorLine.TheVariants as error
use Rattle.sm_run.specs.Causes.{OfFiles, OfModel, IsModelOf, IsFlatOfFiles, IsOfFiles, IsExpandCause, IsModelCause, IsRefusal}

-- a data file that is refused is one of the files
pub of_files : (held : Held) (model : List ℕ) (files : List (List ℕ)) (before now : ℕ) (r : LoadRefusal) → IsLoadCause held model files before now r → IsOfFiles (length files) r
of_files held model files before now load.ReadFault h = tt
of_files held model files before now (load.Limit what found bound) h = tt
of_files held model files before now (load.Syntax line column) h = tt
of_files held model files before now load.OutOfMemory h = tt
of_files held model files before now (load.Data file cause) h =
    let r = h.reaches in
    let long = ap length r.split ∙ length-append r.before (h.name ∷ r.later) in
    omega (arith, long, r.count)

-- what is refused of a text that was loaded
pub expand_cause : (held : Held) (model : List ℕ) (files : List (List ℕ)) (before now : ℕ) (whole : Tree) (tables : List Entry) (line : ErrorLine) → IsLoaded held model files whole tables
    → IsExpandCause whole tables line → IsModelCause held model files before now line
expand_cause held model files before now whole tables error.Usage loaded h = absurd h
expand_cause held model files before now whole tables error.Read loaded h = absurd h
expand_cause held model files before now whole tables error.Memory loaded h = tt
expand_cause held model files before now whole tables (error.Syntax line column) loaded h = absurd h
expand_cause held model files before now whole tables (error.Model line column what) loaded h = record { whole = whole; tables = tables; loaded = loaded; holds = h }
expand_cause held model files before now whole tables (error.Data file cause) loaded h = absurd h
expand_cause held model files before now whole tables (error.Limit what found bound) loaded h = inr (record { whole = whole; tables = tables; loaded = loaded; holds = h })

-- what holds of the flat model holds of that of the files
pub of_model : (held : Held) (model : List ℕ) (files : List (List ℕ)) (m : FlatModel) (P : Tree → List Entry → FlatModel → Type 0) (h : IsFlatOfFiles held model files m)
    → P h.whole h.tables m → OfModel held model files P
of_model held model files m P h holds = record { whole = h.whole; tables = h.tables; flat = m; loaded = h.loaded; is = h.holds; holds = holds }

-- where there are few data files, the first cause is any
pub few_refused : (held : Held) (model : List ℕ) (files : List (List ℕ)) (before now : ℕ) (line : ErrorLine) → length files ≤ 64 → IsModelCause held model files before now line
    → IsRefusal held model files before now line
few_refused held model files before now line few cause = record { cause = cause; first = λ more. absurd (omega (arith, few, more)) }

-- want of memory needs no cause
pub memory_refused : (held : Held) (model : List ℕ) (files : List (List ℕ)) (before now : ℕ) → IsRefusal held model files before now error.Memory
memory_refused held model files before now = record { cause = tt; first = λ more. inr refl }

-- ---- results

pub if_ok : {X E : Type 0} (P Q : X → Type 0) (r : Result X E) → ((x : X) → P x → Q x) → IfOk r P → IfOk r Q
if_ok P Q (Ok x) f h = f x h
if_ok P Q (Err e) f h = h

pub if_err : {X E : Type 0} (P Q : E → Type 0) (r : Result X E) → ((e : E) → P e → Q e) → IfErr r P → IfErr r Q
if_err P Q (Ok x) f h = h
if_err P Q (Err e) f h = f e h
