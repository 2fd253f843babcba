use Rattle.sm_forms.proofs.Queries.{coefficients_of, constancy}
use Rattle.sm_forms.proofs.form.Form.is_constant.Goals as goal

pub returns-clause-same : goal.returns-clause-same
returns-clause-same c = λ n g h. constancy n g c.args.self.now.terms c.is_empty.result h.form.terms (coefficients_of n g c.args.self.now h) c.is_empty.ensures
