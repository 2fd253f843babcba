use Rattle.sm_rows.proofs.Inferring.{whole_vars}
use Rattle.rule_basic.proofs.inference.narrows_by.Goals as goal

pub infers_each-requires-clause-whole : goal.infers_each-requires-clause-whole
infers_each-requires-clause-whole c = whole_vars c.args.store.now c.args.literals.now (c.in_ok-tightens_each.ensures.0 c.if-not-branch.false)
