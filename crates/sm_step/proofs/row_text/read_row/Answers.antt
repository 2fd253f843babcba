use Rattle.std.proofs.Common.{rules}
use Rattle.std.proofs.lemmas.Int.{to_z-of_z}
use Rattle.std.specs.Int.{w128}
use mir.Val.{SFits}
use Rattle.sm_step.specs.RowReading.{row_in}
use Rattle.std.specs.Prelude.{codes}
use Rattle.sm_base.specs.Whole.{whole_text}
use Rattle.sm_step.specs.PartText.{number_text}
use Rattle.sm_step.proofs.Rows.{row_1_1, row_1_3}
use Rattle.sm_step.proofs.Takings.{only, next, first, other, told}
use Rattle.sm_step.proofs.row_text.read_row.Goals as goal

pub returns-then-accept : goal.returns-then-accept
unfolding row_in
returns-then-accept c = told (first _ c.accept.ensures c.if-accept.true (next _ c.number-k.ensures only)) (row_1_1 (codes "lin.") (number_text c.number-k.result))

pub returns-then-accept-2 : goal.returns-then-accept-2
unfolding row_in
returns-then-accept-2 c = told (other _ c.accept.ensures c.if-accept.false (first _ c.accept-2.ensures c.if-accept-2.true (next _ c.number-var.ensures only))) (row_1_1 (codes "link.") (number_text c.number-var.result))

pub returns-then-accept-3 : goal.returns-then-accept-3
unfolding row_in
returns-then-accept-3 c = told (other _ c.accept.ensures c.if-accept.false (other _ c.accept-2.ensures c.if-accept-2.false (first _ c.accept-3.ensures c.if-accept-3.true (next _ c.number-var-then-accept-3.ensures only)))) (row_1_1 (codes "mean.") (number_text c.number-var-then-accept-3.result))

pub returns-then-accept-4 : goal.returns-then-accept-4
unfolding row_in
returns-then-accept-4 c = told (other _ c.accept.ensures c.if-accept.false (other _ c.accept-2.ensures c.if-accept-2.false (other _ c.accept-3.ensures c.if-accept-3.false (first _ c.accept-4.ensures c.if-accept-4.true (next _ c.read_pair-k.ensures only))))) (row_1_3 (codes "clause.") (number_text c.read_pair-k.result.0) (codes ".") (number_text c.read_pair-k.result.1))

pub returns-then-accept-5 : goal.returns-then-accept-5
unfolding row_in
returns-then-accept-5 c = told (other _ c.accept.ensures c.if-accept.false (other _ c.accept-2.ensures c.if-accept-2.false (other _ c.accept-3.ensures c.if-accept-3.false (other _ c.accept-4.ensures c.if-accept-4.false (first _ c.accept-5.ensures c.if-accept-5.true (next _ c.read_pair-k-then-accept-5.ensures only)))))) (row_1_3 (codes "when.") (number_text c.read_pair-k-then-accept-5.result.0) (codes ".") (number_text c.read_pair-k-then-accept-5.result.1))

pub returns-then-accept-6 : goal.returns-then-accept-6
unfolding row_in
returns-then-accept-6 c =
    let fits : SFits w128 c.read_number_and_whole-k.result.1 = search rules in
    rw (to_z-of_z w128 c.read_number_and_whole-k.result.1 fits) (told (other _ c.accept.ensures c.if-accept.false (other _ c.accept-2.ensures c.if-accept-2.false (other _ c.accept-3.ensures c.if-accept-3.false (other _ c.accept-4.ensures c.if-accept-4.false (other _ c.accept-5.ensures c.if-accept-5.false (first _ c.accept-6.ensures c.if-accept-6.true (next _ c.read_number_and_whole-k.ensures only))))))) (row_1_3 (codes "value.") (number_text c.read_number_and_whole-k.result.0) (codes ".") (whole_text c.read_number_and_whole-k.result.1)))

pub returns-then-accept-7 : goal.returns-then-accept-7
unfolding row_in
returns-then-accept-7 c = told (other _ c.accept.ensures c.if-accept.false (other _ c.accept-2.ensures c.if-accept-2.false (other _ c.accept-3.ensures c.if-accept-3.false (other _ c.accept-4.ensures c.if-accept-4.false (other _ c.accept-5.ensures c.if-accept-5.false (other _ c.accept-6.ensures c.if-accept-6.false (first _ c.accept-7.ensures c.if-accept-7.true (next _ c.number-k-then-accept-7.ensures only)))))))) (row_1_1 (codes "table.") (number_text c.number-k-then-accept-7.result))

pub returns : goal.returns
unfolding row_in
returns c = other _ c.accept.ensures c.if-accept.false (other _ c.accept-2.ensures c.if-accept-2.false (other _ c.accept-3.ensures c.if-accept-3.false (other _ c.accept-4.ensures c.if-accept-4.false (other _ c.accept-5.ensures c.if-accept-5.false (other _ c.accept-6.ensures c.if-accept-6.false (other _ c.accept-7.ensures c.if-accept-7.false c.read_task_row.ensures))))))
