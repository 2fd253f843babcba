use Rattle.std.specs.Prelude.{codes}
use Rattle.sm_step.specs.PartText.{number_text, list_text}
use Rattle.sm_step.specs.RuleReading.{order_in}
use Rattle.sm_step.proofs.Rows.{row_3_1_1_1_1}
use Rattle.sm_step.proofs.Takings.{only, next, passed, told}
use Rattle.sm_step.proofs.rule_text.read_order.Goals as goal

pub returns : goal.returns
unfolding order_in
returns c = told (next _ c.read_two_numbers-k.ensures (passed c.expect.ensures (next _ c.read_listed-w.ensures (passed c.expect-2.ensures (next _ c.read_listed-v.ensures only)))))
    (row_3_1_1_1_1 (number_text c.read_two_numbers-k.result.0) (codes " ") (number_text c.read_two_numbers-k.result.1) (codes " ") (list_text c.read_listed-w.result) (codes " ") (list_text c.read_listed-v.result))
