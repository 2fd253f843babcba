use Rattle.std.proofs.Common.{◌≡◌, ◌≤◌, ◌-◌, ◌^◌, ℕ, List, take, length}
use Rattle.sm_check.specs.Feeds.{HasNoEnd, Gathers}
use Rattle.sm_check.proofs.feed.Feed.next_piece.Given as goal

abbrev pub invariant-loop-count : goal.invariant-loop-count
invariant-loop-count g l = record {
  gathers : Gathers (g.F.Shelf.held l.fn.shelf l.name) l.fn.self l.self;
  limit : l.self.place ≤ 2 ^ 40;
  within : l.seen ≤ length l.self.left;
  before : HasNoEnd (take l.seen l.self.left);
  same : (q : List ℕ) → g.F.Shelf.held l.shelf q ≡ g.F.Shelf.held l.fn.shelf q;
  later : g.F.Shelf.faults l.fn.shelf ≤ g.F.Shelf.faults l.shelf;
}

abbrev pub decreases-loop-count : goal.decreases-loop-count
decreases-loop-count g l = 2 ^ 40 - l.self.place
