use Rattle.sm_step.specs.RuleReading.{rule_in}
use Rattle.std.specs.Prelude.{codes}
use Rattle.sm_step.specs.PartText.{number_text, list_text}
use Rattle.sm_step.proofs.Rows.{row_1_3}
use Rattle.sm_step.proofs.Takings.{only, next, first, other, told}
use Rattle.sm_step.proofs.rule_text.read_rule.Goals as goal

pub returns-then-accept : goal.returns-then-accept
unfolding rule_in
returns-then-accept c = told (first _ c.accept.ensures c.if-accept.true (next _ c.read_two_numbers-k.ensures only)) (row_1_3 (codes "sum ") (number_text c.read_two_numbers-k.result.0) (codes " ") (number_text c.read_two_numbers-k.result.1))

pub returns-then-accept-2 : goal.returns-then-accept-2
unfolding rule_in
returns-then-accept-2 c = told (other _ c.accept.ensures c.if-accept.false (first _ c.accept-2.ensures c.if-accept-2.true (next _ c.read_two_numbers-k-then-accept-2.ensures only))) (row_1_3 (codes "clause ") (number_text c.read_two_numbers-k-then-accept-2.result.0) (codes " ") (number_text c.read_two_numbers-k-then-accept-2.result.1))

pub returns-then-accept-3 : goal.returns-then-accept-3
unfolding rule_in
returns-then-accept-3 c = told (other _ c.accept.ensures c.if-accept.false (other _ c.accept-2.ensures c.if-accept-2.false (first _ c.accept-3.ensures c.if-accept-3.true (next _ c.read_two_numbers-k-then-accept-3.ensures only)))) (row_1_3 (codes "when ") (number_text c.read_two_numbers-k-then-accept-3.result.0) (codes " ") (number_text c.read_two_numbers-k-then-accept-3.result.1))

pub returns-then-accept-4 : goal.returns-then-accept-4
unfolding rule_in
returns-then-accept-4 c = told (other _ c.accept.ensures c.if-accept.false (other _ c.accept-2.ensures c.if-accept-2.false (other _ c.accept-3.ensures c.if-accept-3.false (first _ c.accept-4.ensures c.if-accept-4.true (next _ c.read_number_and_list-k.ensures only))))) (row_1_3 (codes "hall ") (number_text c.read_number_and_list-k.result.0) (codes " ") (list_text c.read_number_and_list-k.result.1))

pub returns : goal.returns
unfolding rule_in
returns c = other _ c.accept.ensures c.if-accept.false (other _ c.accept-2.ensures c.if-accept-2.false (other _ c.accept-3.ensures c.if-accept-3.false (other _ c.accept-4.ensures c.if-accept-4.false c.read_value_rule.ensures)))
