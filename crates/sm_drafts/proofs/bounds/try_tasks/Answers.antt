use Rattle.std.proofs.Common.{slice_index_or}
use Rattle.std.proofs.lemmas.Result.{err_from_is_err_and}
use Rattle.sm_kinds.specs.declared.tasks.Task.{Task}
use Rattle.sm_kinds.specs.Tasks.{no_task}
use Rattle.sm_meaning.specs.Limits.{task_bounds}
use Rattle.sm_drafts.specs.Drafts.{bounds_tried}
use Rattle.sm_drafts.proofs.Parts.{split_at, refused_at, all_passed}
use Rattle.sm_drafts.proofs.bounds.try_tasks.Goals as goal

pub returns-in_err-try_task : goal.returns-in_err-try_task
returns-in_err-try_task c =
    let p = err_from_is_err_and c.from_residual.result c.from_residual.ensures.1 in
    rw (p.1, p.2) (refused_at c.in_err-try_task.field-0.0 (λ (t : Task). bounds_tried (task_bounds t)) c.args.tasks.now c.loop-task.task-index (slice_index_or c.args.tasks.now c.loop-task.task-index no_task)
    (split_at c.args.tasks.now c.loop-task.task-index no_task c.loop-task-test.true) c.loop-task.invariant c.in_err-try_task.ensures)

pub returns : goal.returns
returns c = all_passed (λ (t : Task). bounds_tried (task_bounds t)) c.args.tasks.now c.loop-task.task-index tt c.loop-task-test.false c.loop-task.invariant
