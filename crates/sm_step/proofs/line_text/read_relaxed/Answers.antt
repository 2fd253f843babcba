use Rattle.std.proofs.Common.{rules}
use Rattle.std.proofs.lemmas.Int.{to_z-of_z}
use Rattle.std.specs.Int.{w64}
use mir.Val.{SFits}
use Rattle.sm_step.specs.LineReading.{relaxed_in}
use Rattle.std.specs.Prelude.{codes}
use Rattle.sm_base.specs.Whole.{whole_text}
use Rattle.sm_step.specs.PartText.{spaced}
use Rattle.sm_step.specs.RowText.{terms_text}
use Rattle.sm_step.proofs.Rows.{row_1_1, row_1_2}
use Rattle.sm_step.proofs.Takings.{only, next, first, first_word, other, told}
use Rattle.sm_step.proofs.line_text.read_relaxed.Goals as goal

pub returns-then-accept : goal.returns-then-accept
unfolding relaxed_in
returns-then-accept c = first_word _ c.accept.ensures c.if-accept.true c.read_cutoff.ensures

pub returns-then-accept-2 : goal.returns-then-accept-2
unfolding relaxed_in
returns-then-accept-2 c = told (other _ c.accept.ensures c.if-accept.false (first _ c.accept-2.ensures c.if-accept-2.true (next _ c.read_each-terms.ensures only))) (row_1_1 (codes "floor") (terms_text c.read_each-terms.result))

pub returns-then-accept-3 : goal.returns-then-accept-3
unfolding relaxed_in
returns-then-accept-3 c =
    let fits : SFits w64 c.read_values-denominator.result.0 = search rules in
    rw (to_z-of_z w64 c.read_values-denominator.result.0 fits) (told (other _ c.accept.ensures c.if-accept.false (other _ c.accept-2.ensures c.if-accept-2.false (first _ c.accept-3.ensures c.if-accept-3.true (next _ c.read_values-denominator.ensures only)))) (row_1_2 (codes "pair ") (whole_text c.read_values-denominator.result.0) (spaced c.read_values-denominator.result.1)))

pub returns-then-accept-4 : goal.returns-then-accept-4
unfolding relaxed_in
returns-then-accept-4 c = other _ c.accept.ensures c.if-accept.false (other _ c.accept-2.ensures c.if-accept-2.false (other _ c.accept-3.ensures c.if-accept-3.false (first_word _ c.accept-4.ensures c.if-accept-4.true c.read_norange.ensures)))

pub returns-then-accept-5 : goal.returns-then-accept-5
unfolding relaxed_in
returns-then-accept-5 c = other _ c.accept.ensures c.if-accept.false (other _ c.accept-2.ensures c.if-accept-2.false (other _ c.accept-3.ensures c.if-accept-3.false (other _ c.accept-4.ensures c.if-accept-4.false (first_word _ c.accept-5.ensures c.if-accept-5.true c.read_cut.ensures))))

pub returns-then-accept-6 : goal.returns-then-accept-6
unfolding relaxed_in
returns-then-accept-6 c =
    let fits : SFits w64 c.read_values-denominator-then-accept-6.result.0 = search rules in
    rw (to_z-of_z w64 c.read_values-denominator-then-accept-6.result.0 fits) (told (other _ c.accept.ensures c.if-accept.false (other _ c.accept-2.ensures c.if-accept-2.false (other _ c.accept-3.ensures c.if-accept-3.false (other _ c.accept-4.ensures c.if-accept-4.false (other _ c.accept-5.ensures c.if-accept-5.false (first _ c.accept-6.ensures c.if-accept-6.true (next _ c.read_values-denominator-then-accept-6.ensures only))))))) (row_1_2 (codes "sol ") (whole_text c.read_values-denominator-then-accept-6.result.0) (spaced c.read_values-denominator-then-accept-6.result.1)))

pub returns : goal.returns
unfolding relaxed_in
returns c = other _ c.accept.ensures c.if-accept.false (other _ c.accept-2.ensures c.if-accept-2.false (other _ c.accept-3.ensures c.if-accept-3.false (other _ c.accept-4.ensures c.if-accept-4.false (other _ c.accept-5.ensures c.if-accept-5.false (other _ c.accept-6.ensures c.if-accept-6.false c.read_seldom.ensures)))))
