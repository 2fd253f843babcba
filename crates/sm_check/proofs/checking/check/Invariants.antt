use Rattle.std.proofs.Common.{◌≡◌, ◌≤◌, ℕ, List}
use Rattle.sm_check.specs.Readings.{IsAt, unread}
use Rattle.sm_check.proofs.checking.check.Given as goal

abbrev pub invariant-loop-reading : goal.invariant-loop-reading
invariant-loop-reading g l = record {
  at : IsAt l.flat (g.F.Shelf.held l.shelf l.name) l.reading;
  same : (q : List ℕ) → g.F.Shelf.held l.shelf q ≡ g.F.Shelf.held l.fn.shelf q;
  later : g.F.Shelf.faults l.fn.shelf ≤ g.F.Shelf.faults l.shelf;
}

abbrev pub decreases-loop-reading : goal.decreases-loop-reading
decreases-loop-reading g l = unread l.reading.fed
