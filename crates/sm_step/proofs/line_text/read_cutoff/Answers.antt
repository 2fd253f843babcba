use Rattle.sm_step.specs.LineReading.{cutoff_in}
use Rattle.std.specs.Prelude.{codes}
use Rattle.sm_step.specs.PartText.{literal_text}
use Rattle.sm_step.specs.RowText.{terms_text}
use Rattle.sm_step.proofs.Rows.{row_1_1_1_1}
use Rattle.sm_step.proofs.Takings.{only, next, passed, first, other, behind_word}
use Rattle.sm_step.proofs.line_text.read_cutoff.Goals as goal

pub returns-then-accept : goal.returns-then-accept
unfolding cutoff_in
returns-then-accept c = behind_word (next _ c.read_literal-literal.ensures (first _ c.accept.ensures c.if-accept.true (next _ c.read_each-terms.ensures only))) (row_1_1_1_1 (codes "cutoff ") (literal_text c.read_literal-literal.result) (codes " none") (terms_text c.read_each-terms.result))

pub returns : goal.returns
unfolding cutoff_in
returns c = behind_word (next _ c.read_literal-literal.ensures (other _ c.accept.ensures c.if-accept.false (passed c.expect.ensures (next _ c.read_each-terms-2.ensures only)))) (row_1_1_1_1 (codes "cutoff ") (literal_text c.read_literal-literal.result) (codes " cost") (terms_text c.read_each-terms-2.result))
