use Rattle.std.proofs.Common.{◌≡◌, ◌∙◌, ◌++◌, sym, rules, pos, Some, None, [], append_assoc}
use Rattle.std.specs.Prelude.{codes}
use Rattle.std.specs.Int.{w128}
use mir.Val.{SFits}
use Rattle.std.proofs.lemmas.Int.{to_z-of_z}
use Rattle.std.proofs.lemmas.List.{append-nil}
use Rattle.sm_base.specs.Whole.{whole_text}
use Rattle.sm_step.specs.PartText.{fraction_text}
use Rattle.sm_step.specs.Fractions.{fraction_of}
use Rattle.sm_step.specs.PartReading.{fraction_in}
use Rattle.sm_step.proofs.FracParts.{no_fraction, fraction_taken}
use Rattle.sm_step.proofs.Takings.{next, first, other, bad, told, told_where, ends}
use Rattle.sm_step.proofs.fraction.read_fraction.Goals as goal

pub returns-then-accept : goal.returns-then-accept
unfolding fraction_in
returns-then-accept c =
    let fits : SFits w128 c.whole-n.result = search rules in
    let read = rw (to_z-of_z w128 c.whole-n.result fits) at c.read_denominator.ensures in
    told_where (next _ c.whole-n.ensures (first _ c.accept.ensures c.if-accept.true read.taken))
    (λ ok. sym (append_assoc (whole_text c.whole-n.result) (codes "/") read.others) ∙ read.same ok)

pub returns-in-Some : goal.returns-in-Some
unfolding fraction_in
returns-in-Some c =
    let fits : SFits w128 c.whole-n.result = search rules in
    let value = rw (to_z-of_z w128 c.whole-n.result fits) at c.whole_fraction.ensures.value in
    let some : fraction_of c.whole-n.result (pos 1) ≡ Some c.in-Some.fraction = sym value ∙ c.in-Some.is in
    let text : fraction_text c.in-Some.fraction ≡ whole_text c.whole-n.result = rw (to_z-of_z w128 c.whole-n.result fits) at c.in-Some.ensures.text in
    told (next _ c.whole-n.ensures (other _ c.accept.ensures c.if-accept.false (fraction_taken _ _ some))) (append-nil (whole_text c.whole-n.result) ∙ sym text)

pub returns-in-None : goal.returns-in-None
unfolding fraction_in
returns-in-None c =
    let fits : SFits w128 c.whole-n.result = search rules in
    let value = rw (to_z-of_z w128 c.whole-n.result fits) at c.whole_fraction.ensures.value in
    let none : fraction_of c.whole-n.result (pos 1) ≡ None = sym value ∙ c.in-None.is in
    told_where (next _ c.whole-n.ensures (other _ c.accept.ensures c.if-accept.false (bad {v = []} (λ bytes. no_fraction c.whole-n.result (pos 1) bytes none) c.refused.ensures)))
    (λ ok. absurd (ends _ _ c.refused.ensures ok))
