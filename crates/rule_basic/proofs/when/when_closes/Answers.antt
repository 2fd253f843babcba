use Rattle.sm_rows.proofs.Fitting.{gentle_when, over_when}
use Rattle.rule_basic.proofs.when.when_closes.Goals as goal

pub falls_short-requires-clause-gentle : goal.falls_short-requires-clause-gentle
falls_short-requires-clause-gentle c = gentle_when c.args.store.now c.args.form.now c.in-When.literals c.in-When.row c.args.half c.of.result c.in-Some.half c.requires c.in-When.is c.of.ensures c.in-Some.is

pub falls_short-requires-clause-over : goal.falls_short-requires-clause-over
falls_short-requires-clause-over c = over_when c.args.store.now c.args.form.now c.in-When.literals c.in-When.row c.args.half c.of.result c.in-Some.half c.requires c.in-When.is c.of.ensures c.in-Some.is
