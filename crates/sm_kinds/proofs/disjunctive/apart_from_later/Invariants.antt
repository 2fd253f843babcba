use Rattle.std.proofs.Common.{ℕ, ◌<◌}
use Rattle.sm_kinds.specs.Disjunctive.{AreApart}
use Rattle.sm_kinds.specs.Tasks.{task_at}
use Rattle.sm_kinds.proofs.disjunctive.apart_from_later.Given as goal

abbrev pub invariant-loop-j : goal.invariant-loop-j
invariant-loop-j g l = (k : ℕ) → l.i < k → k < l.j → AreApart (g.V.Values.point l.a) (task_at l.tasks l.i) (task_at l.tasks k)
