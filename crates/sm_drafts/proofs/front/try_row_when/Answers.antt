use Rattle.std.proofs.lemmas.Result.{err_from_is_err_and}
use Rattle.sm_drafts.proofs.RowTrials.{when_refused, when_passes}
use Rattle.sm_drafts.proofs.front.try_row_when.Goals as goal

pub returns-in_err-try_conditions-clause-tried : goal.returns-in_err-try_conditions-clause-tried
returns-in_err-try_conditions-clause-tried c =
    let p = err_from_is_err_and c.from_residual.result c.from_residual.ensures.1 in
    rw (p.1, p.2) (λ n g h. when_refused c.args.literals.now g c.in_err-try_conditions.field-0.0 c.in_err-try_conditions.ensures)

pub returns-clause-tried : goal.returns-clause-tried
returns-clause-tried c = λ n g h. when_passes c.args.literals.now g c.try_constant.result c.in_ok-try_conditions.ensures (c.try_constant.ensures.tried n g h)
