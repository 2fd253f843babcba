use Rattle.sm_step.specs.LineReading.{close_in}
use Rattle.std.specs.Prelude.{codes}
use Rattle.sm_step.specs.RowText.{terms_text}
use Rattle.sm_step.proofs.Rows.{row_1_1, row_1_1_1}
use Rattle.sm_step.proofs.Takings.{only, next, passed, first, other, behind_word}
use Rattle.sm_step.proofs.line_text.read_close.Goals as goal

pub returns-then-accept : goal.returns-then-accept
unfolding close_in
returns-then-accept c = behind_word (first _ c.accept.ensures c.if-accept.true (next _ c.read_each-terms.ensures only)) (row_1_1_1 (codes "close ") (codes "none") (terms_text c.read_each-terms.result))

pub returns-then-accept-2 : goal.returns-then-accept-2
unfolding close_in
returns-then-accept-2 c = behind_word (other _ c.accept.ensures c.if-accept.false (first _ c.accept-2.ensures c.if-accept-2.true (next _ c.read_each-terms-then-accept-2.ensures only))) (row_1_1_1 (codes "close ") (codes "cost") (terms_text c.read_each-terms-then-accept-2.result))

pub returns : goal.returns
unfolding close_in
returns c = behind_word (other _ c.accept.ensures c.if-accept.false (other _ c.accept-2.ensures c.if-accept-2.false (passed c.expect.ensures only))) (row_1_1 (codes "close ") (codes "floor"))
