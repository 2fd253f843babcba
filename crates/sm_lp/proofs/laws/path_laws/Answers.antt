use Rattle.sm_lp.proofs.LawLemmas.{on_path, one_of_basis, no_basis_returns, path_ends}
use Rattle.sm_lp.proofs.laws.path_laws.Goals as goal

pub returns-clause-dictionary : goal.returns-clause-dictionary
returns-clause-dictionary c = on_path c.args._program.now

pub returns-clause-one : goal.returns-clause-one
returns-clause-one c = one_of_basis c.args._program.now

pub returns-clause-returns : goal.returns-clause-returns
returns-clause-returns c = no_basis_returns c.args._program.now

pub returns-clause-ends : goal.returns-clause-ends
returns-clause-ends c = path_ends c.args._program.now
