use Rattle.sm_step.specs.PartReading.{test_in}
use Rattle.std.specs.Prelude.{codes}
use Rattle.sm_step.proofs.Rows.{row_1}
use Rattle.sm_step.proofs.Takings.{only, passed, first, other, told}
use Rattle.sm_step.proofs.literal.read_test.Goals as goal

pub returns-then-accept : goal.returns-then-accept
unfolding test_in
returns-then-accept c = told (first _ c.accept.ensures c.if-accept.true only) (row_1 (codes "<="))

pub returns-then-accept-2 : goal.returns-then-accept-2
unfolding test_in
returns-then-accept-2 c = told (other _ c.accept.ensures c.if-accept.false (first _ c.accept-2.ensures c.if-accept-2.true only)) (row_1 (codes ">="))

pub returns-then-accept-3 : goal.returns-then-accept-3
unfolding test_in
returns-then-accept-3 c = told (other _ c.accept.ensures c.if-accept.false (other _ c.accept-2.ensures c.if-accept-2.false (first _ c.accept-3.ensures c.if-accept-3.true only))) (row_1 (codes "="))

pub returns : goal.returns
unfolding test_in
returns c = told (other _ c.accept.ensures c.if-accept.false (other _ c.accept-2.ensures c.if-accept-2.false (other _ c.accept-3.ensures c.if-accept-3.false (passed c.expect.ensures only)))) (row_1 (codes "!="))
