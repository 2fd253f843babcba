use Rattle.std.proofs.Common.{rules}
use Rattle.std.proofs.lemmas.Int.{to_z-of_z}
use Rattle.std.specs.Int.{w128}
use mir.Val.{SFits}
use Rattle.sm_step.specs.RowReading.{number_and_whole_in}
use Rattle.std.specs.Prelude.{codes}
use Rattle.sm_base.specs.Whole.{whole_text}
use Rattle.sm_step.specs.PartText.{number_text}
use Rattle.sm_step.proofs.Rows.{row_1_1_1}
use Rattle.sm_step.proofs.Takings.{only, next, passed, told}
use Rattle.sm_step.proofs.row_text.read_number_and_whole.Goals as goal

pub returns : goal.returns
unfolding number_and_whole_in
returns c =
    let fits : SFits w128 c.whole-number.result = search rules in
    rw (to_z-of_z w128 c.whole-number.result fits) (told (next _ c.number-k.ensures (passed c.expect.ensures (next _ c.whole-number.ensures only))) (row_1_1_1 (number_text c.number-k.result) (codes ".") (whole_text c.whole-number.result)))
