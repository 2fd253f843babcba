use Rattle.std.proofs.Common.{ℕ, List, [], map, get_or, Bor}
use Rattle.sm_loading.proofs.Files.{name_there, past_next, past_cause}
use Rattle.sm_loading.proofs.loading.tables_of.Goals as goal

pub returns-in-Err-clause-cause : goal.returns-in-Err-clause-cause
returns-in-Err-clause-cause g c = λ model tree has_tree.
    let none : Bor (List ℕ) = record { ref_ptr = (0, 0); now = [] } in
    let names : List (List ℕ) = map (λ f. f.now) c.args.files.now in
    let there = name_there c.args.files.now c.loop-number.number none c.loop-number-test.true in
    past_cause (g.F.Shelf.held c.args.shelf.now) (g.F.Shelf.held c.loop-number.shelf) model tree names c.loop-number.number (get_or c.args.files.now c.loop-number.number none).now c.loop-number.tables (g.F.Shelf.faults c.args.shelf.now) (g.F.Shelf.faults c.loop-number.shelf) (g.F.Shelf.faults c.add_file.new.shelf) c.in-Err.refusal has_tree c.loop-number.invariant there.0 there.1 (c.in-Err.ensures.cause model names)

pub loop-number-preserved : goal.loop-number-preserved
loop-number-preserved g c =
    let none : Bor (List ℕ) = record { ref_ptr = (0, 0); now = [] } in
    let names : List (List ℕ) = map (λ f. f.now) c.args.files.now in
    let there = name_there c.args.files.now c.loop-number.number none c.loop-number-test.true in
    past_next (g.F.Shelf.held c.args.shelf.now) (g.F.Shelf.held c.loop-number.shelf) (g.F.Shelf.held c.add_file.new.shelf) names c.loop-number.number (get_or c.args.files.now c.loop-number.number none).now c.loop-number.tables c.add_file.new.tables (g.F.Shelf.faults c.args.shelf.now) (g.F.Shelf.faults c.loop-number.shelf) (g.F.Shelf.faults c.add_file.new.shelf) c.loop-number.invariant there.0 there.1 c.in-Ok.ensures.added c.add_file.ensures.same c.add_file.ensures.later
