use Rattle.std.specs.Prelude.{codes}
use Rattle.sm_step.specs.Text.{body_text, text_of}
use Rattle.sm_step.specs.LineReading.{line_in}
use Rattle.sm_step.proofs.Rows.{row_1_1}
use Rattle.sm_step.proofs.Takings.{only, next, passed, told}
use Rattle.sm_step.proofs.reading.read_line.Goals as goal

pub returns : goal.returns
unfolding line_in text_of
returns c = told (next _ c.read_body-line.ensures (passed c.expect.ensures (passed c.end.ensures only))) (row_1_1 (body_text c.read_body-line.result) (codes "\n"))
