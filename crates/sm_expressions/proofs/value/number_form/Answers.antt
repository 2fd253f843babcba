use Rattle.std.proofs.Common.{rules, ◌∙◌, subst, ℤ, FitsSigned}
use Rattle.std.specs.Int.{w64, w128}
use Rattle.std.proofs.lemmas.Int.{to_z-of_z}
use Rattle.sm_forms.specs.Forms.{IsFormOf}
use Rattle.sm_meaning.specs.Scopes.{count_of}
use Rattle.sm_meaning.specs.Worths.{whole}
use Rattle.sm_expressions.proofs.Values.{form_goes}
use Rattle.sm_expressions.proofs.value.number_form.Goals as goal

pub returns : goal.returns
returns c = λ s count.
    let fits : FitsSigned w64 c.in_ok-within.field-0 = search rules in
    let wide : FitsSigned w128 c.args.number = search rules in
    let form = subst (λ (z : ℤ). IsFormOf (count_of s) (whole z) c.number.result) (to_z-of_z w64 c.in_ok-within.field-0 fits ∙ c.in_ok-within.ensures.same ∙ to_z-of_z w128 c.args.number wide) (c.number.ensures (count_of s)) in
    (form_goes s (whole c.args.number) c.number.result form count, form)
