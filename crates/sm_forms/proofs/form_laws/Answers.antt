use Rattle.sm_forms.proofs.Values.{comes_of}
use Rattle.sm_forms.proofs.Queries.{constant_is, terms_of_form}
use Rattle.sm_forms.proofs.Uniqueness.{one_form, wider_form, constant_value, variable_value}
use Rattle.sm_forms.proofs.form_laws.Goals as goal

pub returns-clause-small : goal.returns-clause-small
returns-clause-small c = λ n g f h. (comes_of n g f h).0

pub returns-clause-terms : goal.returns-clause-terms
returns-clause-terms c = terms_of_form

pub returns-clause-constant : goal.returns-clause-constant
returns-clause-constant c = constant_is

pub returns-clause-one : goal.returns-clause-one
returns-clause-one c = one_form

pub returns-clause-wider : goal.returns-clause-wider
returns-clause-wider c = wider_form

pub returns-clause-constant_value : goal.returns-clause-constant_value
returns-clause-constant_value c = constant_value

pub returns-clause-variable_value : goal.returns-clause-variable_value
returns-clause-variable_value c = variable_value
