use Rattle.sm_step.specs.LineReading.{listed_pattern_in}
use Rattle.std.specs.Prelude.{codes}
use Rattle.sm_step.specs.PartText.{number_text, list_text}
use Rattle.sm_step.proofs.Rows.{row_1_1_1}
use Rattle.sm_step.proofs.Takings.{only, next, passed, told}
use Rattle.sm_step.proofs.pattern_text.read_listed_pattern.Goals as goal

pub returns : goal.returns
unfolding listed_pattern_in
returns c = told (next _ c.number-group.ensures (passed c.expect.ensures (next _ c.read_listed-items.ensures only))) (row_1_1_1 (number_text c.number-group.result) (codes ":") (list_text c.read_listed-items.result))
