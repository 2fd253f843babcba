use Rattle.std.specs.Prelude.{codes}
use Rattle.sm_step.specs.PartText.{number_text, list_text}
use Rattle.sm_step.specs.RuleReading.{task_rule_in}
use Rattle.sm_step.proofs.Rows.{row_1_3, row_1_7}
use Rattle.sm_step.proofs.Takings.{only, next, passed, first, first_word, other, told}
use Rattle.sm_step.proofs.rule_text.read_task_rule.Goals as goal

pub returns-then-accept : goal.returns-then-accept
unfolding task_rule_in
returns-then-accept c = first_word _ c.accept.ensures c.if-accept.true c.read_time_rule.ensures

pub returns-then-accept-2 : goal.returns-then-accept-2
unfolding task_rule_in
returns-then-accept-2 c = told (other _ c.accept.ensures c.if-accept.false (first _ c.accept-2.ensures c.if-accept-2.true (next _ c.read_number_and_list-k.ensures only))) (row_1_3 (codes "energy ") (number_text c.read_number_and_list-k.result.0) (codes " ") (list_text c.read_number_and_list-k.result.1))

pub returns-then-accept-3 : goal.returns-then-accept-3
unfolding task_rule_in
returns-then-accept-3 c = told (other _ c.accept.ensures c.if-accept.false (other _ c.accept-2.ensures c.if-accept-2.false (first _ c.accept-3.ensures c.if-accept-3.true (next _ c.read_number_and_list-k-then-accept-3.ensures only)))) (row_1_3 (codes "load ") (number_text c.read_number_and_list-k-then-accept-3.result.0) (codes " ") (list_text c.read_number_and_list-k-then-accept-3.result.1))

pub returns-then-accept-4 : goal.returns-then-accept-4
unfolding task_rule_in
returns-then-accept-4 c = told (other _ c.accept.ensures c.if-accept.false (other _ c.accept-2.ensures c.if-accept-2.false (other _ c.accept-3.ensures c.if-accept-3.false (first _ c.accept-4.ensures c.if-accept-4.true (next _ c.read_order-k.ensures only)))))
    (row_1_7 (codes "after ") (number_text c.read_order-k.result.0) (codes " ") (number_text c.read_order-k.result.1) (codes " ") (list_text c.read_order-k.result.2) (codes " ") (list_text c.read_order-k.result.3))

pub returns : goal.returns
unfolding task_rule_in
returns c = told (other _ c.accept.ensures c.if-accept.false (other _ c.accept-2.ensures c.if-accept-2.false (other _ c.accept-3.ensures c.if-accept-3.false (other _ c.accept-4.ensures c.if-accept-4.false (passed c.expect.ensures (next _ c.read_order-k-2.ensures only))))))
    (row_1_7 (codes "before ") (number_text c.read_order-k-2.result.0) (codes " ") (number_text c.read_order-k-2.result.1) (codes " ") (list_text c.read_order-k-2.result.2) (codes " ") (list_text c.read_order-k-2.result.3))
