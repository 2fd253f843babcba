use Rattle.sm_flattening.proofs.Affine.{form_affine, row_numbers}
use Rattle.sm_flattening.proofs.row_laws.Goals as goal

pub returns-clause-affine : goal.returns-clause-affine
returns-clause-affine c = form_affine

pub returns-clause-numbers : goal.returns-clause-numbers
returns-clause-numbers c = row_numbers
