use Rattle.std.proofs.Common.{rules}
use Rattle.std.proofs.lemmas.Int.{to_z-of_z}
use Rattle.std.specs.Int.{w64}
use mir.Val.{SFits}
use Rattle.sm_step.specs.LineReading.{price_in}
use Rattle.std.specs.Prelude.{codes}
use Rattle.sm_base.specs.Whole.{whole_text}
use Rattle.sm_step.specs.PartText.{number_text, prices_text, each_after}
use Rattle.sm_step.specs.Text.{pattern_text}
use Rattle.sm_step.proofs.Rows.{row_1_5_1_1_1}
use Rattle.sm_step.proofs.Takings.{only, next, passed, behind_word}
use Rattle.sm_step.proofs.line_text.read_price.Goals as goal

pub returns : goal.returns
unfolding price_in
returns c =
    let fits : SFits w64 c.read_packing-k.result.1 = search rules in
    let fits1 : SFits w64 c.narrow-scale.result = search rules in
    rw (to_z-of_z w64 c.read_packing-k.result.1 fits, to_z-of_z w64 c.narrow-scale.result fits1) (behind_word (next _ c.read_packing-k.ensures (passed c.expect.ensures (next _ c.narrow-scale.ensures (next _ c.read_each-patterns.ensures only)))) (row_1_5_1_1_1 (codes "price ") (number_text c.read_packing-k.result.0) (codes " ") (whole_text c.read_packing-k.result.1) (codes " ") (prices_text c.read_packing-k.result.2) (codes " ") (whole_text c.narrow-scale.result) (each_after 32 pattern_text c.read_each-patterns.result)))
