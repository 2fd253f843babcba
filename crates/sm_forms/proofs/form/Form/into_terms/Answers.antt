use Rattle.sm_forms.proofs.Queries.{terms_of_form}
use Rattle.sm_forms.proofs.form.Form.into_terms.Goals as goal

pub returns-clause-value : goal.returns-clause-value
returns-clause-value c = λ n g h. terms_of_form n g c.args.self h
