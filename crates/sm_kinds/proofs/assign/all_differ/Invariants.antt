use Rattle.std.proofs.Common.{ℕ, ◌<◌, length}
use Rattle.sm_kinds.specs.Alldiff.{Differ}
use Rattle.sm_kinds.specs.Choices.{variable_at}
use Rattle.sm_kinds.proofs.assign.all_differ.Given as goal

abbrev pub invariant-loop-i : goal.invariant-loop-i
invariant-loop-i g l = (j k : ℕ) → j < l.i → j < k → k < length l.picks → Differ (g.V.Values.point l.a) (variable_at l.picks j) (variable_at l.picks k)
