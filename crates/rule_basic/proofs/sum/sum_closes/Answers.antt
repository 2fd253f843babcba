use Rattle.sm_rows.proofs.Fitting.{gentle_linear, over_linear}
use Rattle.rule_basic.proofs.sum.sum_closes.Goals as goal

pub falls_short-requires-clause-gentle : goal.falls_short-requires-clause-gentle
falls_short-requires-clause-gentle c = gentle_linear c.args.store.now c.args.form.now c.in-Linear.row c.args.half c.of.result c.in-Some.half c.requires c.in-Linear.is c.of.ensures c.in-Some.is

pub falls_short-requires-clause-over : goal.falls_short-requires-clause-over
falls_short-requires-clause-over c = over_linear c.args.store.now c.args.form.now c.in-Linear.row c.args.half c.of.result c.in-Some.half c.requires c.in-Linear.is c.of.ensures c.in-Some.is
