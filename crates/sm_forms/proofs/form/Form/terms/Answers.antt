use Rattle.std.proofs.Common.{◌∙◌}
use Rattle.sm_forms.proofs.Queries.{terms_of_form}
use Rattle.sm_forms.proofs.form.Form.terms.Goals as goal

pub returns-clause-value : goal.returns-clause-value
returns-clause-value c = λ n g h. c.as_slice.ensures ∙ terms_of_form n g c.args.self.now h
