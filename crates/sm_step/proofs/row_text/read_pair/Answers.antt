use Rattle.sm_step.specs.RowReading.{pair_in}
use Rattle.std.specs.Prelude.{codes}
use Rattle.sm_step.specs.PartText.{number_text}
use Rattle.sm_step.proofs.Rows.{row_1_1_1}
use Rattle.sm_step.proofs.Takings.{only, next, passed, told}
use Rattle.sm_step.proofs.row_text.read_pair.Goals as goal

pub returns : goal.returns
unfolding pair_in
returns c = told (next _ c.number-k.ensures (passed c.expect.ensures (next _ c.number-number.ensures only))) (row_1_1_1 (number_text c.number-k.result) (codes ".") (number_text c.number-number.result))
