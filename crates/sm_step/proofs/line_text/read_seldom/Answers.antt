use Rattle.std.proofs.Common.{rules}
use Rattle.std.proofs.lemmas.Int.{to_z-of_z}
use Rattle.std.specs.Int.{w64}
use mir.Val.{SFits}
use Rattle.sm_step.specs.LineReading.{seldom_in}
use Rattle.std.specs.Prelude.{codes}
use Rattle.sm_base.specs.Whole.{whole_text}
use Rattle.sm_step.specs.PartText.{number_text, prices_text, literal_text, spaced, each_after}
use Rattle.sm_step.specs.Text.{verdict_text}
use Rattle.sm_step.proofs.Rows.{row_1, row_1_1, row_1_1_1_2, row_1_5}
use Rattle.sm_step.proofs.Takings.{only, next, passed, first, first_word, other, told}
use Rattle.sm_step.proofs.line_text.read_seldom.Goals as goal

pub returns-then-accept : goal.returns-then-accept
unfolding seldom_in
returns-then-accept c = told (first _ c.accept.ensures c.if-accept.true (next _ c.read_each-literals.ensures only)) (row_1_1 (codes "assume") (each_after 32 literal_text c.read_each-literals.result))

pub returns-then-accept-2 : goal.returns-then-accept-2
unfolding seldom_in
returns-then-accept-2 c = told (other _ c.accept.ensures c.if-accept.false (first _ c.accept-2.ensures c.if-accept-2.true only)) (row_1 (codes "qed"))

pub returns-then-accept-3 : goal.returns-then-accept-3
unfolding seldom_in
returns-then-accept-3 c = told (other _ c.accept.ensures c.if-accept.false (other _ c.accept-2.ensures c.if-accept-2.false (first _ c.accept-3.ensures c.if-accept-3.true only))) (row_1 (codes "drop"))

pub returns-then-accept-4 : goal.returns-then-accept-4
unfolding seldom_in
returns-then-accept-4 c =
    let fits : SFits w64 c.read_values-denominator.result.0 = search rules in
    rw (to_z-of_z w64 c.read_values-denominator.result.0 fits) (told (other _ c.accept.ensures c.if-accept.false (other _ c.accept-2.ensures c.if-accept-2.false (other _ c.accept-3.ensures c.if-accept-3.false (first _ c.accept-4.ensures c.if-accept-4.true (next _ c.number-sub.ensures (passed c.expect.ensures (next _ c.read_values-denominator.ensures only))))))) (row_1_1_1_2 (codes "feasible ") (number_text c.number-sub.result) (codes " ") (whole_text c.read_values-denominator.result.0) (spaced c.read_values-denominator.result.1)))

pub returns-then-accept-5 : goal.returns-then-accept-5
unfolding seldom_in
returns-then-accept-5 c = other _ c.accept.ensures c.if-accept.false (other _ c.accept-2.ensures c.if-accept-2.false (other _ c.accept-3.ensures c.if-accept-3.false (other _ c.accept-4.ensures c.if-accept-4.false (first_word _ c.accept-5.ensures c.if-accept-5.true c.read_price.ensures))))

pub returns-then-accept-6 : goal.returns-then-accept-6
unfolding seldom_in
returns-then-accept-6 c =
    let fits : SFits w64 c.read_packing-k.result.1 = search rules in
    rw (to_z-of_z w64 c.read_packing-k.result.1 fits) (told (other _ c.accept.ensures c.if-accept.false (other _ c.accept-2.ensures c.if-accept-2.false (other _ c.accept-3.ensures c.if-accept-3.false (other _ c.accept-4.ensures c.if-accept-4.false (other _ c.accept-5.ensures c.if-accept-5.false (first _ c.accept-6.ensures c.if-accept-6.true (next _ c.read_packing-k.ensures only))))))) (row_1_5 (codes "farkas ") (number_text c.read_packing-k.result.0) (codes " ") (whole_text c.read_packing-k.result.1) (codes " ") (prices_text c.read_packing-k.result.2)))

pub returns-then-accept-7 : goal.returns-then-accept-7
unfolding seldom_in
returns-then-accept-7 c = told (other _ c.accept.ensures c.if-accept.false (other _ c.accept-2.ensures c.if-accept-2.false (other _ c.accept-3.ensures c.if-accept-3.false (other _ c.accept-4.ensures c.if-accept-4.false (other _ c.accept-5.ensures c.if-accept-5.false (other _ c.accept-6.ensures c.if-accept-6.false (first _ c.accept-7.ensures c.if-accept-7.true (next _ c.read_verdict-verdict.ensures only)))))))) (row_1_1 (codes "verdict ") (verdict_text c.read_verdict-verdict.result))

pub returns : goal.returns
unfolding seldom_in
returns c = told (other _ c.accept.ensures c.if-accept.false (other _ c.accept-2.ensures c.if-accept-2.false (other _ c.accept-3.ensures c.if-accept-3.false (other _ c.accept-4.ensures c.if-accept-4.false (other _ c.accept-5.ensures c.if-accept-5.false (other _ c.accept-6.ensures c.if-accept-6.false (other _ c.accept-7.ensures c.if-accept-7.false (passed c.expect-2.ensures (next _ c.number-version.ensures only))))))))) (row_1_1 (codes "simpl-log ") (number_text c.number-version.result))
