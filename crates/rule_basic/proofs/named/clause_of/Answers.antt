use Rattle.rule_basic.proofs.Fitting.{constraint_few}
use Rattle.rule_basic.proofs.named.clause_of.Goals as goal

pub clause_in-requires : goal.clause_in-requires
clause_in-requires c = constraint_few c.args.flat.now c.args.k c.constraint-constraint.result.now c.constraints.ensures.limits c.constraint-constraint.ensures.value
