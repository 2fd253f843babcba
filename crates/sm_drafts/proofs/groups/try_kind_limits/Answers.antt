use Rattle.std.proofs.Common.{subst, List}
use Rattle.sm_kinds.specs.declared.tasks.Task.{Task}
use Rattle.sm_meaning.specs.Limits.{tasks_limits_tried}
use Rattle.sm_drafts.specs.Drafts.{Passes}
use Rattle.sm_drafts.proofs.groups.try_kind_limits.Goals as goal

pub returns-in-Cumulative : goal.returns-in-Cumulative
returns-in-Cumulative c = rw c.in-Cumulative.is (subst (λ (ts : List Task). Passes (tasks_limits_tried c.args.vars.now ts) c.try_tasks.result) c.as_slice.ensures c.try_tasks.ensures)

pub returns-in-Disjunctive : goal.returns-in-Disjunctive
returns-in-Disjunctive c =
    rw c.in-Disjunctive.is (subst (λ (ts : List Task). Passes (tasks_limits_tried c.args.vars.now ts) c.try_tasks-in-Disjunctive.result) c.as_slice-in-Disjunctive.ensures c.try_tasks-in-Disjunctive.ensures)

pub returns-in-Packing : goal.returns-in-Packing
returns-in-Packing c = rw c.in-Packing.is c.try_packing.ensures
