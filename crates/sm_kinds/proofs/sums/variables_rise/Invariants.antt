use Rattle.std.proofs.Common.{ℕ, ◌+◌, ◌<◌, pos, slice_index_or}
use Rattle.sm_kinds.proofs.sums.variables_rise.Given as goal

abbrev pub invariant-loop-i : goal.invariant-loop-i
invariant-loop-i l = (k : ℕ) → k + 1 < l.i → (slice_index_or l.terms k (0, pos 0)).0 < (slice_index_or l.terms (k + 1) (0, pos 0)).0
