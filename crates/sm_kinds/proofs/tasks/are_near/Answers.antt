use Rattle.sm_kinds.proofs.Nearness.{near_earliest}
use Rattle.sm_kinds.proofs.tasks.are_near.Goals as goal

pub returns : goal.returns
returns c =
    let same = near_earliest c.args.vars.now c.args.tasks.now c.earliest_task.result c.earliest_task.ensures.known c.earliest_task.ensures.least in
    ((λ t. same.0 (c.all_end_near.ensures.0 t)), (λ n. c.all_end_near.ensures.1 (same.1 n)))
