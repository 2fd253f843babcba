use Rattle.std.proofs.Common.{rules}
use Rattle.std.proofs.lemmas.Int.{to_z-of_z}
use Rattle.std.specs.Int.{w128}
use mir.Val.{SFits}
use Rattle.sm_step.specs.LineReading.{pattern_in}
use Rattle.std.specs.Prelude.{codes}
use Rattle.sm_base.specs.Whole.{whole_text}
use Rattle.sm_step.specs.PartText.{number_text, list_text}
use Rattle.sm_step.proofs.Rows.{row_1_1_1_1_1}
use Rattle.sm_step.proofs.Takings.{only, next, passed, told}
use Rattle.sm_step.proofs.pattern_text.read_pattern.Goals as goal

pub returns : goal.returns
unfolding pattern_in
returns c =
    let fits : SFits w128 c.whole-weight.result = search rules in
    rw (to_z-of_z w128 c.whole-weight.result fits) (told (next _ c.number-group.ensures (passed c.expect.ensures (next _ c.read_listed-items.ensures (passed c.expect-2.ensures (next _ c.whole-weight.ensures only))))) (row_1_1_1_1_1 (number_text c.number-group.result) (codes ":") (list_text c.read_listed-items.result) (codes ":") (whole_text c.whole-weight.result)))
