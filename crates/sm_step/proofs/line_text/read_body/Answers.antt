use Rattle.sm_step.specs.LineReading.{body_in}
use Rattle.std.specs.Prelude.{codes}
use Rattle.sm_step.specs.PartText.{number_text}
use Rattle.sm_step.proofs.Rows.{row_1_1}
use Rattle.sm_step.proofs.Takings.{only, next, first, first_word, other, told}
use Rattle.sm_step.proofs.line_text.read_body.Goals as goal

pub returns-then-accept : goal.returns-then-accept
unfolding body_in
returns-then-accept c = first_word _ c.accept.ensures c.if-accept.true c.read_node.ensures

pub returns-then-accept-2 : goal.returns-then-accept-2
unfolding body_in
returns-then-accept-2 c = told (other _ c.accept.ensures c.if-accept.false (first _ c.accept-2.ensures c.if-accept-2.true (next _ c.long_number-id.ensures only))) (row_1_1 (codes "at ") (number_text c.long_number-id.result))

pub returns-then-accept-3 : goal.returns-then-accept-3
unfolding body_in
returns-then-accept-3 c = other _ c.accept.ensures c.if-accept.false (other _ c.accept-2.ensures c.if-accept-2.false (first_word _ c.accept-3.ensures c.if-accept-3.true c.read_infer.ensures))

pub returns-then-accept-4 : goal.returns-then-accept-4
unfolding body_in
returns-then-accept-4 c = other _ c.accept.ensures c.if-accept.false (other _ c.accept-2.ensures c.if-accept-2.false (other _ c.accept-3.ensures c.if-accept-3.false (first_word _ c.accept-4.ensures c.if-accept-4.true c.read_close.ensures)))

pub returns-then-accept-5 : goal.returns-then-accept-5
unfolding body_in
returns-then-accept-5 c = told (other _ c.accept.ensures c.if-accept.false (other _ c.accept-2.ensures c.if-accept-2.false (other _ c.accept-3.ensures c.if-accept-3.false (other _ c.accept-4.ensures c.if-accept-4.false (first _ c.accept-5.ensures c.if-accept-5.true (next _ c.number-k.ensures only)))))) (row_1_1 (codes "violated ") (number_text c.number-k.result))

pub returns-then-accept-6 : goal.returns-then-accept-6
unfolding body_in
returns-then-accept-6 c = other _ c.accept.ensures c.if-accept.false (other _ c.accept-2.ensures c.if-accept-2.false (other _ c.accept-3.ensures c.if-accept-3.false (other _ c.accept-4.ensures c.if-accept-4.false (other _ c.accept-5.ensures c.if-accept-5.false (first_word _ c.accept-6.ensures c.if-accept-6.true c.read_lemma.ensures)))))

pub returns : goal.returns
unfolding body_in
returns c = other _ c.accept.ensures c.if-accept.false (other _ c.accept-2.ensures c.if-accept-2.false (other _ c.accept-3.ensures c.if-accept-3.false (other _ c.accept-4.ensures c.if-accept-4.false (other _ c.accept-5.ensures c.if-accept-5.false (other _ c.accept-6.ensures c.if-accept-6.false c.read_relaxed.ensures)))))
