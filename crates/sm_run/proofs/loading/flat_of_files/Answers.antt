use Rattle.std.proofs.Common.{◌≡◌, subst, inl, map, ℕ, ◌<◌, pos, List, Bor, Err}
use Rattle.std.proofs.lemmas.List.{length-map}
use Rattle.sm_data.specs.declared.refusal.Counted.TheVariants.{Files}
use Rattle.sm_loading.specs.declared.refusal.LoadRefusal.TheVariants as load
use Rattle.sm_syntax.specs.Trees.{tree_of}
use Rattle.sm_run.specs.Causes.{IsModelOf, IsFlatOfFiles, IsOfFiles, IsExpandCause, IsRefusal}
use Rattle.sm_run.proofs.Loads.{of_files, expand_cause, few_refused, if_ok, if_err}
use Rattle.sm_run.proofs.loading.flat_of_files.Goals as goal

pub returns-in-Ok-clause-flat : goal.returns-in-Ok-clause-flat
returns-in-Ok-clause-flat g c =
    let whole = tree_of c.in-Ok.loaded.tree in
    if_ok (IsModelOf whole c.in-Ok.loaded.tables) (IsFlatOfFiles (g.F.Shelf.held c.args.shelf.now) c.args.model.now (map (λ (f : Bor (List ℕ)). f.now) c.args.files.now)) c.flat_of.result
    (λ m is. record { whole = whole; tables = c.in-Ok.loaded.tables; loaded = c.in-Ok.ensures.loaded; holds = is }) c.flat_of.ensures.flat

pub returns-in-Ok-clause-cause : goal.returns-in-Ok-clause-cause
returns-in-Ok-clause-cause g c =
    let whole = tree_of c.in-Ok.loaded.tree in
    let files = map (λ (f : Bor (List ℕ)). f.now) c.args.files.now in
    let held = g.F.Shelf.held c.args.shelf.now in
    let before = g.F.Shelf.faults c.args.shelf.now in
    let now = g.F.Shelf.faults c.load.new.shelf in
    if_err (IsExpandCause whole c.in-Ok.loaded.tables) (IsRefusal held c.args.model.now files before now) c.flat_of.result
    (λ line cause. few_refused held c.args.model.now files before now line c.in-Ok.ensures.loaded.few (expand_cause held c.args.model.now files before now whole c.in-Ok.loaded.tables line c.in-Ok.ensures.loaded cause)) c.flat_of.ensures.cause

pub returns-in-Err-clause-cause : goal.returns-in-Err-clause-cause
returns-in-Err-clause-cause g c =
    let many = length-map c.args.files.now (λ (f : Bor (List ℕ)). f.now) in
    record {
      cause = c.error_of_load.ensures.cause (g.F.Shelf.held c.args.shelf.now) c.args.model.now (g.F.Shelf.faults c.args.shelf.now) (g.F.Shelf.faults c.load.new.shelf) c.in-Err.ensures.cause;
      first = λ more.
          let told : Err c.in-Err.refusal ≡ Err (load.Limit Files (pos 65) (pos 64)) = (c.in-Err.ensures.many (subst (λ (n : ℕ). 64 < n) many more)).0 in
          inl (c.error_of_load.ensures.files (cc));
    }

pub error_of_load-requires : goal.error_of_load-requires
error_of_load-requires g c =
    let files = map (λ (f : Bor (List ℕ)). f.now) c.args.files.now in
    subst (λ (n : ℕ). IsOfFiles n c.in-Err.refusal) (length-map c.args.files.now (λ (f : Bor (List ℕ)). f.now))
    (of_files (g.F.Shelf.held c.args.shelf.now) c.args.model.now files (g.F.Shelf.faults c.args.shelf.now) (g.F.Shelf.faults c.load.new.shelf) c.in-Err.refusal c.in-Err.ensures.cause)
