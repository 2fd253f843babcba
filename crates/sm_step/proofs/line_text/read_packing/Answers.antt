use Rattle.std.proofs.Common.{rules}
use Rattle.std.proofs.lemmas.Int.{to_z-of_z}
use Rattle.std.specs.Int.{w64}
use mir.Val.{SFits}
use Rattle.sm_step.specs.LineReading.{packing_in}
use Rattle.std.specs.Prelude.{codes}
use Rattle.sm_base.specs.Whole.{whole_text}
use Rattle.sm_step.specs.PartText.{number_text, prices_text}
use Rattle.sm_step.proofs.Rows.{row_1_1_1_1_1}
use Rattle.sm_step.proofs.Takings.{only, next, passed, told}
use Rattle.sm_step.proofs.line_text.read_packing.Goals as goal

pub returns : goal.returns
unfolding packing_in
returns c =
    let fits : SFits w64 c.narrow-denominator.result = search rules in
    rw (to_z-of_z w64 c.narrow-denominator.result fits) (told (next _ c.number-k.ensures (passed c.expect.ensures (next _ c.narrow-denominator.ensures (passed c.expect-2.ensures (next _ c.read_listed-prices.ensures only))))) (row_1_1_1_1_1 (number_text c.number-k.result) (codes " ") (whole_text c.narrow-denominator.result) (codes " ") (prices_text c.read_listed-prices.result)))
