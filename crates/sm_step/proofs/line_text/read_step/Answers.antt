use Rattle.sm_step.specs.LineReading.{step_in}
use Rattle.std.specs.Prelude.{codes}
use Rattle.sm_step.specs.PartText.{fraction_text}
use Rattle.sm_step.specs.Text.{operation_text}
use Rattle.sm_step.proofs.Rows.{row_1_1_1_1_1}
use Rattle.sm_step.proofs.Takings.{only, next, passed, told}
use Rattle.sm_step.proofs.line_text.read_step.Goals as goal

pub returns : goal.returns
unfolding step_in
returns c = told (next _ c.read_operation-op.ensures (passed c.expect.ensures (next _ c.read_fraction-left.ensures (passed c.expect-2.ensures (next _ c.read_fraction-right.ensures only))))) (row_1_1_1_1_1 (operation_text c.read_operation-op.result) (codes " ") (fraction_text c.read_fraction-left.result) (codes " ") (fraction_text c.read_fraction-right.result))
