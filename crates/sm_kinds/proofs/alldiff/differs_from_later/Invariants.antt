use Rattle.std.proofs.Common.{ℕ, ◌<◌, slice_index_or}
use Rattle.sm_kinds.specs.Alldiff.{Differ}
use Rattle.sm_kinds.proofs.alldiff.differs_from_later.Given as goal

abbrev pub invariant-loop-j : goal.invariant-loop-j
invariant-loop-j g l = (k : ℕ) → l.i < k → k < l.j → Differ (g.V.Values.point l.a) (slice_index_or l.positions l.i 0) (slice_index_or l.positions k 0)
