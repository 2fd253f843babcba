use Rattle.sm_step.specs.RuleReading.{task_in}
use Rattle.std.specs.Prelude.{codes}
use Rattle.sm_step.specs.PartText.{number_text}
use Rattle.sm_step.proofs.Rows.{row_1}
use Rattle.sm_step.proofs.Takings.{only, next, first, other, told}
use Rattle.sm_step.proofs.rule_text.read_task.Goals as goal

pub returns-then-accept : goal.returns-then-accept
unfolding task_in
returns-then-accept c = told (first _ c.accept.ensures c.if-accept.true only) (row_1 (codes "-"))

pub returns : goal.returns
unfolding task_in
returns c = told (other _ c.accept.ensures c.if-accept.false (next _ c.number-task.ensures only)) (row_1 (number_text c.number-task.result))
