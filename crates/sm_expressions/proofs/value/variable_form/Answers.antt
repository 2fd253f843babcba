use Rattle.sm_meaning.specs.Scopes.{count_of}
use Rattle.sm_meaning.specs.Worths.{value_of}
use Rattle.sm_expressions.proofs.Values.{form_goes}
use Rattle.sm_expressions.proofs.value.variable_form.Goals as goal

pub returns : goal.returns
returns c = λ s lt count.
    let form = c.in_ok-variable.ensures (count_of s) lt in
    (form_goes s (value_of c.args.var) c.in_ok-variable.field-0 form count, form)
