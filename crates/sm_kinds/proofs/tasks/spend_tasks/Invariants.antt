use Rattle.std.proofs.Common.{◌≡◌, ◌+◌, drop}
use Rattle.sm_kinds.specs.Tasks.{tasks_size}
use Rattle.sm_kinds.proofs.tasks.spend_tasks.Given as goal

-- what is left, less the literals of the tasks to come, is what was there less those of all
abbrev pub invariant-loop-task : goal.invariant-loop-task
invariant-loop-task l = l.rest + tasks_size l.tasks ≡ l.left + tasks_size (drop l.task-index l.tasks)
