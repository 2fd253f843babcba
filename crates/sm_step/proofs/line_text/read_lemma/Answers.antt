use Rattle.sm_step.specs.LineReading.{lemma_in}
use Rattle.std.specs.Prelude.{codes}
use Rattle.sm_step.specs.PartText.{number_text}
use Rattle.sm_step.specs.RuleText.{outcome_text}
use Rattle.sm_step.proofs.Rows.{row_1_1_1_1}
use Rattle.sm_step.proofs.Takings.{only, next, passed, behind_word}
use Rattle.sm_step.proofs.line_text.read_lemma.Goals as goal

pub returns : goal.returns
unfolding lemma_in
returns c = behind_word (next _ c.long_number-lemma.ensures (passed c.expect.ensures (next _ c.read_outcome-result.ensures only))) (row_1_1_1_1 (codes "lemma ") (number_text c.long_number-lemma.result) (codes " -> ") (outcome_text c.read_outcome-result.result))
