use Rattle.std.proofs.Common.{rules}
use Rattle.std.proofs.lemmas.Int.{to_z-of_z}
use Rattle.std.specs.Int.{w128}
use mir.Val.{SFits}
use Rattle.sm_step.specs.RuleReading.{time_rule_in}
use Rattle.std.specs.Prelude.{codes}
use Rattle.sm_base.specs.Whole.{whole_text}
use Rattle.sm_step.specs.PartText.{number_text}
use Rattle.sm_step.specs.RuleText.{task_text}
use Rattle.sm_step.proofs.Rows.{row_1_1_1_1_1_1}
use Rattle.sm_step.proofs.Takings.{only, next, passed, behind_word}
use Rattle.sm_step.proofs.rule_text.read_time_rule.Goals as goal

pub returns : goal.returns
unfolding time_rule_in
returns c =
    let fits : SFits w128 c.whole-moment.result = search rules in
    rw (to_z-of_z w128 c.whole-moment.result fits) (behind_word (next _ c.number-k.ensures (passed c.expect.ensures (next _ c.whole-moment.ensures (passed c.expect-2.ensures (next _ c.read_task-task.ensures only))))) (row_1_1_1_1_1_1 (codes "time ") (number_text c.number-k.result) (codes " ") (whole_text c.whole-moment.result) (codes " ") (task_text c.read_task-task.result)))
