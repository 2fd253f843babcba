use Rattle.std.proofs.Common.{ℕ}
use Rattle.sm_step.proofs.Listing.{SoFar, left}
use Rattle.sm_step.proofs.lists.read_each.Given as goal

abbrev pub invariant-loop-alloc : goal.invariant-loop-alloc
invariant-loop-alloc g l = SoFar l.mark g.T.Part.reading g.T.Part.text l.fn.cursor l.parts l.cursor

abbrev pub decreases-loop-alloc : goal.decreases-loop-alloc
decreases-loop-alloc g l = left l.cursor
