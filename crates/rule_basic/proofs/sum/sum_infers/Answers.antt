use Rattle.sm_rows.proofs.Fitting.{gentle_linear, over_linear}
use Rattle.rule_basic.proofs.sum.sum_infers.Goals as goal

pub cuts-requires-clause-gentle : goal.cuts-requires-clause-gentle
cuts-requires-clause-gentle c = gentle_linear c.args.store.now c.args.form.now c.in-Linear.row c.args.half c.of.result c.in-Some.half c.requires.form c.in-Linear.is c.of.ensures c.in-Some.is

pub cuts-requires-clause-over : goal.cuts-requires-clause-over
cuts-requires-clause-over c = over_linear c.args.store.now c.args.form.now c.in-Linear.row c.args.half c.of.result c.in-Some.half c.requires.form c.in-Linear.is c.of.ensures c.in-Some.is
