use Rattle.std.proofs.Common.{ℕ, ◌<◌, length, slice_index_or}
use Rattle.sm_kinds.specs.Alldiff.{Differ}
use Rattle.sm_kinds.proofs.alldiff.holds.Given as goal

abbrev pub invariant-loop-i : goal.invariant-loop-i
invariant-loop-i g l = (j k : ℕ) → j < l.i → j < k → k < length l.positions → Differ (g.V.Values.point l.a) (slice_index_or l.positions j 0) (slice_index_or l.positions k 0)
