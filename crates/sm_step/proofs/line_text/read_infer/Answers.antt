use Rattle.sm_step.specs.LineReading.{infer_in}
use Rattle.std.specs.Prelude.{codes}
use Rattle.sm_step.specs.RuleText.{rule_text, outcome_text}
use Rattle.sm_step.proofs.Rows.{row_1_1_1_1}
use Rattle.sm_step.proofs.Takings.{only, next, passed, behind_word}
use Rattle.sm_step.proofs.line_text.read_infer.Goals as goal

pub returns : goal.returns
unfolding infer_in
returns c = behind_word (next _ c.read_rule-rule.ensures (passed c.expect.ensures (next _ c.read_outcome-result.ensures only))) (row_1_1_1_1 (codes "infer ") (rule_text c.read_rule-rule.result) (codes " -> ") (outcome_text c.read_outcome-result.result))
