use Rattle.sm_step.specs.LineReading.{operation_in}
use Rattle.std.specs.Prelude.{codes}
use Rattle.sm_step.proofs.Rows.{row_1}
use Rattle.sm_step.proofs.Takings.{only, passed, first, other, told}
use Rattle.sm_step.proofs.pattern_text.read_operation.Goals as goal

pub returns-then-accept : goal.returns-then-accept
unfolding operation_in
returns-then-accept c = told (first _ c.accept.ensures c.if-accept.true only) (row_1 (codes "plus"))

pub returns-then-accept-2 : goal.returns-then-accept-2
unfolding operation_in
returns-then-accept-2 c = told (other _ c.accept.ensures c.if-accept.false (first _ c.accept-2.ensures c.if-accept-2.true only)) (row_1 (codes "minus"))

pub returns-then-accept-3 : goal.returns-then-accept-3
unfolding operation_in
returns-then-accept-3 c = told (other _ c.accept.ensures c.if-accept.false (other _ c.accept-2.ensures c.if-accept-2.false (first _ c.accept-3.ensures c.if-accept-3.true only))) (row_1 (codes "times"))

pub returns-then-accept-4 : goal.returns-then-accept-4
unfolding operation_in
returns-then-accept-4 c = told (other _ c.accept.ensures c.if-accept.false (other _ c.accept-2.ensures c.if-accept-2.false (other _ c.accept-3.ensures c.if-accept-3.false (first _ c.accept-4.ensures c.if-accept-4.true only)))) (row_1 (codes "over"))

pub returns : goal.returns
unfolding operation_in
returns c = told (other _ c.accept.ensures c.if-accept.false (other _ c.accept-2.ensures c.if-accept-2.false (other _ c.accept-3.ensures c.if-accept-3.false (other _ c.accept-4.ensures c.if-accept-4.false (passed c.expect.ensures only))))) (row_1 (codes "lcm"))
