use Rattle.std.proofs.Common.{rules}
use Rattle.std.proofs.lemmas.Int.{to_z-of_z}
use Rattle.std.specs.Int.{w64}
use mir.Val.{SFits}
use Rattle.std.specs.Prelude.{codes}
use Rattle.sm_base.specs.Whole.{whole_text}
use Rattle.sm_step.specs.PartText.{number_text}
use Rattle.sm_step.specs.RowReading.{column_in}
use Rattle.sm_step.proofs.Rows.{row_1_1, row_1_1_1_1}
use Rattle.sm_step.proofs.Takings.{only, next, passed, first, other, told}
use Rattle.sm_step.proofs.row_text.read_column.Goals as goal

pub returns-then-accept : goal.returns-then-accept
unfolding column_in
returns-then-accept c =
    let fits : SFits w64 c.narrow-value.result = search rules in
    rw (to_z-of_z w64 c.narrow-value.result fits) (told (passed c.expect.ensures (next _ c.number-var.ensures (first _ c.accept.ensures c.if-accept.true (next _ c.narrow-value.ensures only))))
    (row_1_1_1_1 (codes "v") (number_text c.number-var.result) (codes "=") (whole_text c.narrow-value.result)))

pub returns : goal.returns
unfolding column_in
returns c = told (passed c.expect.ensures (next _ c.number-var.ensures (other _ c.accept.ensures c.if-accept.false only))) (row_1_1 (codes "v") (number_text c.number-var.result))
