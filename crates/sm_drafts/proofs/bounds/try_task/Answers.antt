use Rattle.std.proofs.Common.{Err}
use Rattle.std.proofs.lemmas.Result.{err_from_is_err_and}
use Rattle.sm_meaning.specs.Trials.{◌▸◌}
use Rattle.sm_meaning.specs.Limits.{presence_bounds}
use Rattle.sm_drafts.specs.Drafts.{bound_tried, bounds_tried}
use Rattle.sm_drafts.proofs.Parts.{refused_first, passed_first}
use Rattle.sm_drafts.proofs.bounds.try_task.Goals as goal

pub returns-in_err-try_bound : goal.returns-in_err-try_bound
returns-in_err-try_bound c =
    let p = err_from_is_err_and c.from_residual.result c.from_residual.ensures.1 in
    rw (p.1, p.2) (refused_first c.in_err-try_bound.field-0.0 (bound_tried c.args.task.now.duration) (bound_tried c.args.task.now.demand ▸ bounds_tried (presence_bounds c.args.task.now.present)) c.in_err-try_bound.ensures.tried)

pub returns-in_err-try_bound-2 : goal.returns-in_err-try_bound-2
returns-in_err-try_bound-2 c =
    let p = err_from_is_err_and c.from_residual-in_err-try_bound-2.result c.from_residual-in_err-try_bound-2.ensures.1 in
    let rest = bounds_tried (presence_bounds c.args.task.now.present) in
    rw (p.1, p.2) (passed_first (bound_tried c.args.task.now.duration) (bound_tried c.args.task.now.demand ▸ rest) (Err c.in_err-try_bound-2.field-0.0) c.in_ok-try_bound.ensures.tried
    (refused_first c.in_err-try_bound-2.field-0.0 (bound_tried c.args.task.now.demand) rest c.in_err-try_bound-2.ensures.tried))

pub returns : goal.returns
returns c =
    let rest = bounds_tried (presence_bounds c.args.task.now.present) in
    passed_first (bound_tried c.args.task.now.duration) (bound_tried c.args.task.now.demand ▸ rest) c.try_presence.result c.in_ok-try_bound.ensures.tried
    (passed_first (bound_tried c.args.task.now.demand) rest c.try_presence.result c.in_ok-try_bound-2.ensures.tried c.try_presence.ensures)
