use Rattle.sm_drafts.proofs.RowTrials.{constant_passes}
use Rattle.sm_drafts.proofs.front.try_constant.Goals as goal

pub returns-clause-tried : goal.returns-clause-tried
returns-clause-tried c = λ n g h. constant_passes n g c.args.form.now c.try_bound.result h c.try_bound.ensures.tried
