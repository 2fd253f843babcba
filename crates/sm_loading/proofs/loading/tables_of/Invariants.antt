use Rattle.std.proofs.Common.{map}
use Rattle.sm_loading.proofs.Files.{IsPast}
use Rattle.sm_loading.proofs.loading.tables_of.Given as goal

abbrev pub invariant-loop-number : goal.invariant-loop-number
invariant-loop-number g l =
    IsPast (g.F.Shelf.held l.fn.shelf) (g.F.Shelf.held l.shelf) (map (λ f. f.now) l.files) l.number l.tables (g.F.Shelf.faults l.fn.shelf) (g.F.Shelf.faults l.shelf)
