use Rattle.sm_frac.proofs.OperationLemmas.{quotient_value}
use Rattle.sm_frac.proofs.operation.quotient.Goals as goal

pub returns-clause-exact : goal.returns-clause-exact
returns-clause-exact c = quotient_value c.args.left c.args.right c.reciprocal.result c.product.result c.requires c.reciprocal.ensures c.product.ensures.exact
