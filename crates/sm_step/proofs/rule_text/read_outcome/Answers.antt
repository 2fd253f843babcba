use Rattle.sm_step.specs.RuleReading.{outcome_in}
use Rattle.std.specs.Prelude.{codes}
use Rattle.sm_step.specs.PartText.{literal_text, joined}
use Rattle.sm_step.proofs.Rows.{row_1}
use Rattle.sm_step.proofs.Takings.{only, next, first, other, told}
use Rattle.sm_step.proofs.rule_text.read_outcome.Goals as goal

pub returns-then-accept : goal.returns-then-accept
unfolding outcome_in
returns-then-accept c = told (first _ c.accept.ensures c.if-accept.true only) (row_1 (codes "close"))

pub returns : goal.returns
unfolding outcome_in
returns c = told (other _ c.accept.ensures c.if-accept.false (next _ c.read_joined-literals.ensures only)) (row_1 (joined 32 literal_text c.read_joined-literals.result))
