use Rattle.sm_step.specs.RowReading.{term_in}
use Rattle.std.specs.Prelude.{codes}
use Rattle.sm_step.specs.PartText.{fraction_text}
use Rattle.sm_step.specs.RowText.{row_text}
use Rattle.sm_step.proofs.Rows.{row_1_1_1}
use Rattle.sm_step.proofs.Takings.{only, next, passed, told}
use Rattle.sm_step.proofs.row_text.read_term.Goals as goal

pub returns : goal.returns
unfolding term_in
returns c = told (next _ c.read_fraction-by.ensures (passed c.expect.ensures (next _ c.read_row-row.ensures only))) (row_1_1_1 (fraction_text c.read_fraction-by.result) (codes "@") (row_text c.read_row-row.result))
