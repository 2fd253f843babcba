use Rattle.sm_step.specs.LineReading.{norange_in}
use Rattle.std.specs.Prelude.{codes}
use Rattle.sm_step.specs.PartText.{list_text, fraction_text}
use Rattle.sm_step.specs.Text.{program_text, operation_text}
use Rattle.sm_step.proofs.Rows.{row_1_1_1_1_1_5}
use Rattle.sm_step.proofs.Takings.{only, next, passed, behind_word}
use Rattle.sm_step.proofs.line_text.read_norange.Goals as goal

pub returns : goal.returns
unfolding norange_in
returns c = behind_word (next _ c.read_program-of.ensures (passed c.expect.ensures (next _ c.read_listed-basis.ensures (passed c.expect-2.ensures (next _ c.read_step-op.ensures only))))) (row_1_1_1_1_1_5 (codes "norange ") (program_text c.read_program-of.result) (codes " ") (list_text c.read_listed-basis.result) (codes " ") (operation_text c.read_step-op.result.0) (codes " ") (fraction_text c.read_step-op.result.1) (codes " ") (fraction_text c.read_step-op.result.2))
