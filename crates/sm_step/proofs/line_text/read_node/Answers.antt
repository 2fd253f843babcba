use Rattle.sm_step.specs.LineReading.{node_in}
use Rattle.std.specs.Prelude.{codes}
use Rattle.sm_step.specs.PartText.{number_text, literal_text}
use Rattle.sm_step.proofs.Rows.{row_1_1_1_1_1_1}
use Rattle.sm_step.proofs.Takings.{only, next, passed, behind_word}
use Rattle.sm_step.proofs.line_text.read_node.Goals as goal

pub returns : goal.returns
unfolding node_in
returns c = behind_word (next _ c.long_number-id.ensures (passed c.expect.ensures (next _ c.long_number-parent.ensures (passed c.expect-2.ensures (next _ c.read_literal-literal.ensures only))))) (row_1_1_1_1_1_1 (codes "node ") (number_text c.long_number-id.result) (codes " ") (number_text c.long_number-parent.result) (codes " ") (literal_text c.read_literal-literal.result))
