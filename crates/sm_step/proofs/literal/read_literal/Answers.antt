use Rattle.std.proofs.Common.{rules}
use Rattle.std.proofs.lemmas.Int.{to_z-of_z}
use Rattle.std.specs.Int.{w64}
use mir.Val.{SFits}
use Rattle.sm_step.specs.PartReading.{literal_in}
use Rattle.std.specs.Prelude.{codes}
use Rattle.sm_base.specs.Whole.{whole_text}
use Rattle.sm_step.specs.PartText.{number_text, test_text}
use Rattle.sm_step.proofs.Rows.{row_1_1_1_1}
use Rattle.sm_step.proofs.Takings.{only, next, passed, told}
use Rattle.sm_step.proofs.literal.read_literal.Goals as goal

pub returns : goal.returns
unfolding literal_in
returns c =
    let fits : SFits w64 c.narrow-bound.result = search rules in
    rw (to_z-of_z w64 c.narrow-bound.result fits) (told (passed c.expect.ensures (next _ c.number-var.ensures (next _ c.read_test-test.ensures (next _ c.narrow-bound.ensures only)))) (row_1_1_1_1 (codes "v") (number_text c.number-var.result) (test_text c.read_test-test.result) (whole_text c.narrow-bound.result)))
