use Rattle.sm_syntax.proofs.Predictions as predict
use Rattle.sm_syntax.proofs.read_constraint.CmpPart.read.Goals as goal

pub read_rule-requires : goal.read_rule-requires
read_rule-requires c = predict.cmp_at_least c.args.reader.now c.terminal.result c.terminal.ensures c.in-AtLeast.is

pub read_rule-requires-in-Equal : goal.read_rule-requires-in-Equal
read_rule-requires-in-Equal c = predict.cmp_equal c.args.reader.now c.terminal.result c.terminal.ensures c.in-Equal.is

pub read_rule-requires-in_default : goal.read_rule-requires-in_default
read_rule-requires-in_default c = predict.cmp_else c.args.reader.now c.terminal.result c.terminal.ensures c.in_default.not-AtLeast c.in_default.not-Equal
