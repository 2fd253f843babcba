use Rattle.sm_frac.proofs.OperationLemmas.{difference_value}
use Rattle.sm_frac.proofs.operation.difference.Goals as goal

pub returns-clause-exact : goal.returns-clause-exact
returns-clause-exact c = difference_value c.args.left c.args.right c.negated.result c.sum.result c.negated.ensures c.sum.ensures.exact
