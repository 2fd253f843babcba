use Rattle.std.proofs.Common.{rules, FitsSigned, ◌∙◌, length}
use Rattle.std.specs.Int.{w128}
use Rattle.std.proofs.lemmas.Int.{to_z-of_z}
use Rattle.std.proofs.lemmas.Result.{err_from_is_err_and}
use Rattle.sm_kinds.specs.Limits.{most_tasks, most_horizon}
use Rattle.sm_data.specs.declared.refusal.Counted.TheVariants as counted
use Rattle.sm_meaning.specs.Refusals.{number_over}
use Rattle.sm_meaning.specs.Trials.{tried}
use Rattle.sm_meaning.specs.Limits.{horizon_of, count_tried}
use Rattle.sm_drafts.proofs.Parts.{refused_first, passed_first}
use Rattle.sm_drafts.proofs.Horizons.{number_same}
use Rattle.sm_drafts.proofs.groups.try_tasks.Goals as goal

pub returns-in_err-try_count : goal.returns-in_err-try_count
returns-in_err-try_count c =
    let p = err_from_is_err_and c.from_residual.result c.from_residual.ensures.1 in
    let tasks = c.args.tasks.now in
    rw (p.1, p.2) (refused_first c.in_err-try_count.field-0.0 (count_tried counted.Tasks most_tasks (length tasks)) (tried (number_over counted.Horizon most_horizon (horizon_of c.args.vars.now tasks))) c.in_err-try_count.ensures)

pub returns : goal.returns
returns c =
    let tasks = c.args.tasks.now in
    let reach = horizon_of c.args.vars.now tasks in
    let fits : FitsSigned w128 c.horizon.result = search rules in
    passed_first (count_tried counted.Tasks most_tasks (length tasks)) (tried (number_over counted.Horizon most_horizon reach)) c.try_number.result c.in_ok-try_count.ensures
    (number_same counted.Horizon most_horizon _ reach c.try_number.result (to_z-of_z w128 c.horizon.result fits ∙ c.horizon.ensures) c.try_number.ensures.tried)
