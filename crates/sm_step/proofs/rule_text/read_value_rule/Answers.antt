use Rattle.sm_step.specs.RuleReading.{value_rule_in}
use Rattle.std.specs.Prelude.{codes}
use Rattle.sm_step.specs.PartText.{number_text}
use Rattle.sm_step.proofs.Rows.{row_1_1, row_1_3}
use Rattle.sm_step.proofs.Takings.{only, next, first, other, told}
use Rattle.sm_step.proofs.rule_text.read_value_rule.Goals as goal

pub returns-then-accept : goal.returns-then-accept
unfolding value_rule_in
returns-then-accept c = told (first _ c.accept.ensures c.if-accept.true (next _ c.number-k.ensures only)) (row_1_1 (codes "elem ") (number_text c.number-k.result))

pub returns-then-accept-2 : goal.returns-then-accept-2
unfolding value_rule_in
returns-then-accept-2 c = told (other _ c.accept.ensures c.if-accept.false (first _ c.accept-2.ensures c.if-accept-2.true (next _ c.number-k-then-accept-2.ensures only))) (row_1_1 (codes "isum ") (number_text c.number-k-then-accept-2.result))

pub returns-then-accept-3 : goal.returns-then-accept-3
unfolding value_rule_in
returns-then-accept-3 c = told (other _ c.accept.ensures c.if-accept.false (other _ c.accept-2.ensures c.if-accept-2.false (first _ c.accept-3.ensures c.if-accept-3.true (next _ c.read_two_numbers-k.ensures only)))) (row_1_3 (codes "cap ") (number_text c.read_two_numbers-k.result.0) (codes " ") (number_text c.read_two_numbers-k.result.1))

pub returns-then-accept-4 : goal.returns-then-accept-4
unfolding value_rule_in
returns-then-accept-4 c = told (other _ c.accept.ensures c.if-accept.false (other _ c.accept-2.ensures c.if-accept-2.false (other _ c.accept-3.ensures c.if-accept-3.false (first _ c.accept-4.ensures c.if-accept-4.true (next _ c.number-k-then-accept-4.ensures only))))) (row_1_1 (codes "pay ") (number_text c.number-k-then-accept-4.result))

pub returns-then-accept-5 : goal.returns-then-accept-5
unfolding value_rule_in
returns-then-accept-5 c = told (other _ c.accept.ensures c.if-accept.false (other _ c.accept-2.ensures c.if-accept-2.false (other _ c.accept-3.ensures c.if-accept-3.false (other _ c.accept-4.ensures c.if-accept-4.false (first _ c.accept-5.ensures c.if-accept-5.true (next _ c.read_two_numbers-k-then-accept-5.ensures only)))))) (row_1_3 (codes "chain ") (number_text c.read_two_numbers-k-then-accept-5.result.0) (codes " ") (number_text c.read_two_numbers-k-then-accept-5.result.1))

pub returns : goal.returns
unfolding value_rule_in
returns c = other _ c.accept.ensures c.if-accept.false (other _ c.accept-2.ensures c.if-accept-2.false (other _ c.accept-3.ensures c.if-accept-3.false (other _ c.accept-4.ensures c.if-accept-4.false (other _ c.accept-5.ensures c.if-accept-5.false c.read_task_rule.ensures))))
