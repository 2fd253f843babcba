use Rattle.sm_step.specs.LineReading.{bound_in}
use Rattle.std.specs.Prelude.{codes}
use Rattle.sm_step.specs.PartText.{fraction_text}
use Rattle.sm_step.specs.Text.{best_text}
use Rattle.sm_step.proofs.Rows.{row_1_1_1}
use Rattle.sm_step.proofs.Takings.{only, next, passed, told}
use Rattle.sm_step.proofs.verdict_text.read_bound.Goals as goal

pub returns : goal.returns
unfolding bound_in
returns c = told (next _ c.read_fraction-bound.ensures (passed c.expect.ensures (next _ c.read_best-best.ensures only))) (row_1_1_1 (fraction_text c.read_fraction-bound.result) (codes " ") (best_text c.read_best-best.result))
