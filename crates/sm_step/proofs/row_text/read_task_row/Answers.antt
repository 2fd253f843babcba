use Rattle.std.proofs.Common.{rules}
use Rattle.std.proofs.lemmas.Int.{to_z-of_z}
use Rattle.std.specs.Int.{w128}
use mir.Val.{SFits}
use Rattle.sm_step.specs.RowReading.{task_row_in}
use Rattle.std.specs.Prelude.{codes}
use Rattle.sm_base.specs.Whole.{whole_text}
use Rattle.sm_step.specs.PartText.{number_text, list_text}
use Rattle.sm_step.proofs.Rows.{row_1_1, row_1_1_1_1, row_1_3}
use Rattle.sm_step.proofs.Takings.{only, next, passed, first, other, told}
use Rattle.sm_step.proofs.row_text.read_task_row.Goals as goal

pub returns-then-accept : goal.returns-then-accept
unfolding task_row_in
returns-then-accept c =
    let fits : SFits w128 c.read_number_and_whole-k.result.1 = search rules in
    rw (to_z-of_z w128 c.read_number_and_whole-k.result.1 fits) (told (first _ c.accept.ensures c.if-accept.true (next _ c.read_number_and_whole-k.ensures only)) (row_1_3 (codes "time.") (number_text c.read_number_and_whole-k.result.0) (codes ".") (whole_text c.read_number_and_whole-k.result.1)))

pub returns-then-accept-2 : goal.returns-then-accept-2
unfolding task_row_in
returns-then-accept-2 c = told (other _ c.accept.ensures c.if-accept.false (first _ c.accept-2.ensures c.if-accept-2.true (next _ c.number-k.ensures (passed c.expect.ensures (next _ c.read_listed-tasks.ensures only))))) (row_1_1_1_1 (codes "par.") (number_text c.number-k.result) (codes ".") (list_text c.read_listed-tasks.result))

pub returns-then-accept-3 : goal.returns-then-accept-3
unfolding task_row_in
returns-then-accept-3 c = told (other _ c.accept.ensures c.if-accept.false (other _ c.accept-2.ensures c.if-accept-2.false (first _ c.accept-3.ensures c.if-accept-3.true (next _ c.read_pair-k.ensures only)))) (row_1_3 (codes "cap.") (number_text c.read_pair-k.result.0) (codes ".") (number_text c.read_pair-k.result.1))

pub returns-then-accept-4 : goal.returns-then-accept-4
unfolding task_row_in
returns-then-accept-4 c = told (other _ c.accept.ensures c.if-accept.false (other _ c.accept-2.ensures c.if-accept-2.false (other _ c.accept-3.ensures c.if-accept-3.false (first _ c.accept-4.ensures c.if-accept-4.true (next _ c.number-k-then-accept-4.ensures only))))) (row_1_1 (codes "pack.") (number_text c.number-k-then-accept-4.result))

pub returns-then-accept-5 : goal.returns-then-accept-5
unfolding task_row_in
returns-then-accept-5 c = told (other _ c.accept.ensures c.if-accept.false (other _ c.accept-2.ensures c.if-accept-2.false (other _ c.accept-3.ensures c.if-accept-3.false (other _ c.accept-4.ensures c.if-accept-4.false (first _ c.accept-5.ensures c.if-accept-5.true (next _ c.read_pair-k-then-accept-5.ensures only)))))) (row_1_3 (codes "once.") (number_text c.read_pair-k-then-accept-5.result.0) (codes ".") (number_text c.read_pair-k-then-accept-5.result.1))

pub returns-then-accept-6 : goal.returns-then-accept-6
unfolding task_row_in
returns-then-accept-6 c = told (other _ c.accept.ensures c.if-accept.false (other _ c.accept-2.ensures c.if-accept-2.false (other _ c.accept-3.ensures c.if-accept-3.false (other _ c.accept-4.ensures c.if-accept-4.false (other _ c.accept-5.ensures c.if-accept-5.false (first _ c.accept-6.ensures c.if-accept-6.true (next _ c.read_pair-k-then-accept-6.ensures only))))))) (row_1_3 (codes "self.") (number_text c.read_pair-k-then-accept-6.result.0) (codes ".") (number_text c.read_pair-k-then-accept-6.result.1))

pub returns : goal.returns
unfolding task_row_in
returns c = told (other _ c.accept.ensures c.if-accept.false (other _ c.accept-2.ensures c.if-accept-2.false (other _ c.accept-3.ensures c.if-accept-3.false (other _ c.accept-4.ensures c.if-accept-4.false (other _ c.accept-5.ensures c.if-accept-5.false (other _ c.accept-6.ensures c.if-accept-6.false (passed c.expect-2.ensures (next _ c.long_number-cut.ensures only)))))))) (row_1_1 (codes "cut.") (number_text c.long_number-cut.result))
