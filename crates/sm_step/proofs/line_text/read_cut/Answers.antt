use Rattle.sm_step.specs.LineReading.{cut_in}
use Rattle.std.specs.Prelude.{codes}
use Rattle.sm_step.specs.PartText.{number_text, list_text, joined}
use Rattle.sm_step.specs.RowText.{terms_text, row_text, column_text}
use Rattle.sm_step.proofs.Rows.{row_1_1_1, row_1_1_1_1_1}
use Rattle.sm_step.proofs.Takings.{only, next, passed, first, other, behind_word}
use Rattle.sm_step.proofs.line_text.read_cut.Goals as goal

pub returns-then-accept : goal.returns-then-accept
unfolding cut_in
returns-then-accept c = behind_word (first _ c.accept.ensures c.if-accept.true (next _ c.read_each-terms.ensures only)) (row_1_1_1 (codes "cut ") (codes "gomory") (terms_text c.read_each-terms.result))

pub returns-then-accept-2 : goal.returns-then-accept-2
unfolding cut_in
returns-then-accept-2 c = behind_word (other _ c.accept.ensures c.if-accept.false (first _ c.accept-2.ensures c.if-accept-2.true (next _ c.read_row-row.ensures (passed c.expect.ensures (next _ c.read_joined-columns.ensures only))))) (row_1_1_1_1_1 (codes "cut ") (codes "cover ") (row_text c.read_row-row.result) (codes " ") (joined 44 column_text c.read_joined-columns.result))

pub returns : goal.returns
unfolding cut_in
returns c = behind_word (other _ c.accept.ensures c.if-accept.false (other _ c.accept-2.ensures c.if-accept-2.false (passed c.expect-2.ensures (next _ c.number-k.ensures (passed c.expect-3.ensures (next _ c.read_listed-nodes.ensures only)))))) (row_1_1_1_1_1 (codes "cut ") (codes "leave ") (number_text c.number-k.result) (codes " ") (list_text c.read_listed-nodes.result))
