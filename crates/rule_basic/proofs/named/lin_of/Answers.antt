use Rattle.rule_basic.proofs.named.lin_of.Goals as goal

pub lin_in-requires : goal.lin_in-requires
lin_in-requires c = (c.args.flat.now.vars, c.constraint-constraint.ensures.limits)
