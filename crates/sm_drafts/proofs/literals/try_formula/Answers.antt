use Rattle.sm_clausify.specs.Propositions.{meaning}
use Rattle.sm_drafts.proofs.Reached.{formula_small}
use Rattle.sm_drafts.proofs.literals.try_formula.Goals as goal

pub returns-clause-small : goal.returns-clause-small
returns-clause-small c = formula_small (meaning c.args.formula.now) c.try_literals.result c.try_literals.ensures
