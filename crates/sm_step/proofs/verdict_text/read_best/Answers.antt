use Rattle.sm_step.specs.LineReading.{best_in}
use Rattle.std.specs.Prelude.{codes}
use Rattle.sm_step.specs.PartText.{value_text}
use Rattle.sm_step.proofs.Rows.{row_1}
use Rattle.sm_step.proofs.Takings.{only, next, first, other, told}
use Rattle.sm_step.proofs.verdict_text.read_best.Goals as goal

pub returns-then-accept : goal.returns-then-accept
unfolding best_in
returns-then-accept c = told (first _ c.accept.ensures c.if-accept.true only) (row_1 (codes "none"))

pub returns : goal.returns
unfolding best_in
returns c = told (other _ c.accept.ensures c.if-accept.false (next _ c.read_joined-values.ensures only)) (row_1 (value_text c.read_joined-values.result))
