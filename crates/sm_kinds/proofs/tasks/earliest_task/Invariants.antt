use Rattle.std.proofs.Common.{ℕ, ◌<◌, length}
use Rattle.std.specs.Prelude.{◌≤ℤ◌}
use Rattle.sm_kinds.specs.Tasks.{earliest_start, task_at}
use Rattle.sm_kinds.proofs.tasks.earliest_task.Given as goal

abbrev pub invariant-loop-i : goal.invariant-loop-i
invariant-loop-i l = record {
  known : l.best < length l.tasks;
  least : (k : ℕ) → k < l.i → earliest_start l.vars (task_at l.tasks l.best) ≤ℤ earliest_start l.vars (task_at l.tasks k);
}
