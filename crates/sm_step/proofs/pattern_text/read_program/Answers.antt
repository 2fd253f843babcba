use Rattle.sm_step.specs.LineReading.{program_in}
use Rattle.std.specs.Prelude.{codes}
use Rattle.sm_step.specs.PartText.{number_text, joined_or_none}
use Rattle.sm_step.specs.Text.{listed_text}
use Rattle.sm_step.proofs.Rows.{row_1, row_1_1_1_1}
use Rattle.sm_step.proofs.Takings.{only, next, passed, first, other, told}
use Rattle.sm_step.proofs.pattern_text.read_program.Goals as goal

pub returns-then-accept : goal.returns-then-accept
unfolding program_in
returns-then-accept c = told (first _ c.accept.ensures c.if-accept.true only) (row_1 (codes "relax"))

pub returns-then-accept-2 : goal.returns-then-accept-2
unfolding program_in
returns-then-accept-2 c = told (other _ c.accept.ensures c.if-accept.false (first _ c.accept-2.ensures c.if-accept-2.true only)) (row_1 (codes "leaf"))

pub returns : goal.returns
unfolding program_in
returns c = told (other _ c.accept.ensures c.if-accept.false (other _ c.accept-2.ensures c.if-accept-2.false (passed c.expect.ensures (next _ c.number-k.ensures (passed c.expect-2.ensures (next _ c.read_listed-patterns.ensures only)))))) (row_1_1_1_1 (codes "pack.") (number_text c.number-k.result) (codes " ") (joined_or_none 59 listed_text c.read_listed-patterns.result))
