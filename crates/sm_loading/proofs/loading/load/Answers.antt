use Rattle.std.proofs.Common.{◌≤◌, arith, ℕ, List, length, map}
use Rattle.std.proofs.lemmas.List.{length-map}
use Rattle.sm_syntax.specs.Trees.{tree_of}
use Rattle.sm_loading.proofs.Files.{cause_behind, loaded_behind}
use Rattle.sm_loading.proofs.loading.load.Goals as goal

pub returns-in-Err-clause-cause : goal.returns-in-Err-clause-cause
returns-in-Err-clause-cause g c = c.in-Err.ensures.cause (map (λ f. f.now) c.args.data_files.now)

pub returns-in-Ok-tables_of-clause-loaded : goal.returns-in-Ok-tables_of-clause-loaded
returns-in-Ok-tables_of-clause-loaded g c =
    let names : List (List ℕ) = map (λ f. f.now) c.args.data_files.now in
    let few : length names ≤ 64 = omega (arith, length-map c.args.data_files.now (λ f. f.now), c.if-data_files-gt-FILES_LIMIT.false) in
    loaded_behind (g.F.Shelf.held c.args.shelf.now) (g.F.Shelf.held c.tree_of_file.new.shelf) c.args.model.now (tree_of c.in-Ok.tree) names c.in-Ok-tables_of.tables few c.in-Ok.ensures.tree c.tree_of_file.ensures.same c.in-Ok-tables_of.ensures.tables

pub returns-in-Err-tables_of-clause-cause : goal.returns-in-Err-tables_of-clause-cause
returns-in-Err-tables_of-clause-cause g c =
    cause_behind (g.F.Shelf.held c.args.shelf.now) (g.F.Shelf.held c.tree_of_file.new.shelf) c.args.model.now (tree_of c.in-Ok.tree) (map (λ f. f.now) c.args.data_files.now) (g.F.Shelf.faults c.args.shelf.now) (g.F.Shelf.faults c.tree_of_file.new.shelf) (g.F.Shelf.faults c.tables_of.new.shelf) c.in-Err-tables_of.refusal c.in-Ok.ensures.tree c.tree_of_file.ensures.same c.tree_of_file.ensures.later c.in-Err-tables_of.ensures.cause
