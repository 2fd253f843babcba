use Rattle.std.proofs.Common.{ℕ, ◌+◌, ◌<◌, length, slice_index_or}
use Rattle.std.specs.Prelude.{All}
use Rattle.sm_kinds.specs.Vars.{IsDiscrete}
use Rattle.sm_flat.specs.Goals.{no_goal}
use Rattle.sm_flat.proofs.limits.are_reals_last.Given as goal

abbrev pub invariant-loop-i : goal.invariant-loop-i
invariant-loop-i l = (k : ℕ) → k < l.i → k + 1 < length l.goals → All (λ t. IsDiscrete l.vars t.0) (slice_index_or l.goals k no_goal).terms
