use Rattle.std.proofs.Common.{ℕ, ◌<◌, length}
use Rattle.sm_kinds.specs.Disjunctive.{AreApart}
use Rattle.sm_kinds.specs.Tasks.{task_at}
use Rattle.sm_kinds.proofs.disjunctive.holds.Given as goal

abbrev pub invariant-loop-i : goal.invariant-loop-i
invariant-loop-i g l = (j k : ℕ) → j < l.i → j < k → k < length l.tasks → AreApart (g.V.Values.point l.a) (task_at l.tasks j) (task_at l.tasks k)
