use Rattle.sm_step.specs.RuleReading.{number_and_list_in}
use Rattle.std.specs.Prelude.{codes}
use Rattle.sm_step.specs.PartText.{number_text, list_text}
use Rattle.sm_step.proofs.Rows.{row_1_1_1}
use Rattle.sm_step.proofs.Takings.{only, next, passed, told}
use Rattle.sm_step.proofs.rule_text.read_number_and_list.Goals as goal

pub returns : goal.returns
unfolding number_and_list_in
returns c = told (next _ c.number-k.ensures (passed c.expect.ensures (next _ c.read_listed-w.ensures only))) (row_1_1_1 (number_text c.number-k.result) (codes " ") (list_text c.read_listed-w.result))
