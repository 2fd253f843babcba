use Rattle.std.proofs.Common.{ℕ, ◌+◌, ◌<◌, pos, slice_index_or}
use Rattle.std.specs.Prelude.{◌<ℤ◌}
use Rattle.sm_kinds.proofs.var.is_rising.Given as goal

abbrev pub invariant-loop-i : goal.invariant-loop-i
invariant-loop-i l = (k : ℕ) → k + 1 < l.i → (slice_index_or l.values k (pos 0)) <ℤ (slice_index_or l.values (k + 1) (pos 0))
