use Rattle.std.proofs.Common.{ℕ, ◌<◌}
use Rattle.sm_kinds.specs.Alldiff.{Differ}
use Rattle.sm_kinds.specs.Choices.{variable_at}
use Rattle.sm_kinds.proofs.assign.differs_from_later.Given as goal

abbrev pub invariant-loop-j : goal.invariant-loop-j
invariant-loop-j g l = (k : ℕ) → l.i < k → k < l.j → Differ (g.V.Values.point l.a) (variable_at l.picks l.i) (variable_at l.picks k)
