use Rattle.sm_step.specs.LineReading.{verdict_in}
use Rattle.std.specs.Prelude.{codes}
use Rattle.sm_step.specs.PartText.{number_text, fraction_text, value_text}
use Rattle.sm_step.specs.Text.{best_text}
use Rattle.sm_step.proofs.Rows.{row_1, row_1_1, row_1_1_1_3, row_1_3}
use Rattle.sm_step.proofs.Takings.{only, next, passed, first, other, told}
use Rattle.sm_step.proofs.verdict_text.read_verdict.Goals as goal

pub returns-then-accept : goal.returns-then-accept
unfolding verdict_in
returns-then-accept c = told (first _ c.accept.ensures c.if-accept.true (next _ c.read_joined-values.ensures only)) (row_1_1 (codes "optimal ") (value_text c.read_joined-values.result))

pub returns-then-accept-2 : goal.returns-then-accept-2
unfolding verdict_in
returns-then-accept-2 c = told (other _ c.accept.ensures c.if-accept.false (first _ c.accept-2.ensures c.if-accept-2.true only)) (row_1 (codes "satisfied"))

pub returns-then-accept-3 : goal.returns-then-accept-3
unfolding verdict_in
returns-then-accept-3 c = told (other _ c.accept.ensures c.if-accept.false (other _ c.accept-2.ensures c.if-accept-2.false (first _ c.accept-3.ensures c.if-accept-3.true only))) (row_1 (codes "infeasible"))

pub returns-then-accept-4 : goal.returns-then-accept-4
unfolding verdict_in
returns-then-accept-4 c = told (other _ c.accept.ensures c.if-accept.false (other _ c.accept-2.ensures c.if-accept-2.false (other _ c.accept-3.ensures c.if-accept-3.false (first _ c.accept-4.ensures c.if-accept-4.true (next _ c.long_number-nodes.ensures (passed c.expect.ensures (next _ c.read_bound-best.ensures only))))))) (row_1_1_1_3 (codes "limit ") (number_text c.long_number-nodes.result) (codes " ") (fraction_text c.read_bound-best.result.0) (codes " ") (best_text c.read_bound-best.result.1))

pub returns : goal.returns
unfolding verdict_in
returns c = told (other _ c.accept.ensures c.if-accept.false (other _ c.accept-2.ensures c.if-accept-2.false (other _ c.accept-3.ensures c.if-accept-3.false (other _ c.accept-4.ensures c.if-accept-4.false (passed c.expect-2.ensures (next _ c.read_bound-best-2.ensures only)))))) (row_1_3 (codes "range ") (fraction_text c.read_bound-best-2.result.0) (codes " ") (best_text c.read_bound-best-2.result.1))
