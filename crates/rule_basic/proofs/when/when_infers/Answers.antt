use Rattle.sm_rows.proofs.Fitting.{gentle_when, over_when}
use Rattle.rule_basic.proofs.Choosing.{when_told}
use Rattle.rule_basic.proofs.when.when_infers.Goals as goal

pub cuts_when-requires-clause-gentle : goal.cuts_when-requires-clause-gentle
cuts_when-requires-clause-gentle c = gentle_when c.args.store.now c.args.form.now c.in-When.literals c.in-When.row c.args.half c.of.result c.in-Some.half c.requires.form c.in-When.is c.of.ensures c.in-Some.is

pub cuts_when-requires-clause-over : goal.cuts_when-requires-clause-over
cuts_when-requires-clause-over c = over_when c.args.store.now c.args.form.now c.in-When.literals c.in-When.row c.args.half c.of.result c.in-Some.half c.requires.form c.in-When.is c.of.ensures c.in-Some.is

pub returns-in-Some : goal.returns-in-Some
returns-in-Some c = when_told c.args.store.now c.args.half c.args.literal.now c.args.form.now c.in-When.literals c.as_slice.result.now c.in-When.row c.of.result c.in-Some.half c.cuts_when.result c.in-When.is c.of.ensures c.in-Some.is c.as_slice.ensures c.cuts_when.ensures
