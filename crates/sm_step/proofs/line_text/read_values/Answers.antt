use Rattle.std.proofs.Common.{rules}
use Rattle.std.proofs.lemmas.Int.{to_z-of_z}
use Rattle.std.specs.Int.{w64}
use mir.Val.{SFits}
use Rattle.sm_step.specs.PartReading.{values_in}
use Rattle.sm_base.specs.Whole.{whole_text}
use Rattle.sm_step.specs.PartText.{spaced}
use Rattle.sm_step.proofs.Rows.{row_1_1}
use Rattle.sm_step.proofs.Takings.{only, next, told}
use Rattle.sm_step.proofs.line_text.read_values.Goals as goal

pub returns : goal.returns
unfolding values_in
returns c =
    let fits : SFits w64 c.narrow-denominator.result = search rules in
    rw (to_z-of_z w64 c.narrow-denominator.result fits) (told (next _ c.narrow-denominator.ensures (next _ c.read_each-values.ensures only)) (row_1_1 (whole_text c.narrow-denominator.result) (spaced c.read_each-values.result)))
