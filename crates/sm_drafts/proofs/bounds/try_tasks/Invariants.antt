use Rattle.sm_kinds.specs.declared.tasks.Task.{Task}
use Rattle.sm_meaning.specs.Limits.{task_bounds}
use Rattle.sm_drafts.specs.Drafts.{bounds_tried}
use Rattle.sm_drafts.proofs.Parts.{PassedUpTo}
use Rattle.sm_drafts.proofs.bounds.try_tasks.Given as goal

abbrev pub invariant-loop-task : goal.invariant-loop-task
invariant-loop-task l = PassedUpTo (λ (t : Task). bounds_tried (task_bounds t)) l.task-index l.tasks
