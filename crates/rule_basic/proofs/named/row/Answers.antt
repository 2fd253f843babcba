use Rattle.rule_basic.proofs.Naming.{if_holds, if_apart}
use Rattle.rule_basic.proofs.named.row.Goals as goal

pub returns-clause-holds : goal.returns-clause-holds
returns-clause-holds c = if_holds c.args.flat.now c.args.store.now c.args.name.now c.in_ok-named.named c.requires.limits c.in_ok-named.ensures

pub returns-clause-apart : goal.returns-clause-apart
returns-clause-apart c = if_apart c.args.flat.now c.args.store.now c.args.name.now c.in_ok-named.named c.requires.limits c.in_ok-named.ensures
