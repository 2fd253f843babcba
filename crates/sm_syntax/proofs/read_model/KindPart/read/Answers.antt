use Rattle.sm_syntax.proofs.Predictions as predict
use Rattle.sm_syntax.proofs.read_model.KindPart.read.Goals as goal

pub read_rule-requires : goal.read_rule-requires
read_rule-requires c = predict.kind_int c.args.reader.now c.terminal.result c.terminal.ensures c.in-Int.is

pub read_rule-requires-in-Real : goal.read_rule-requires-in-Real
read_rule-requires-in-Real c = predict.kind_real c.args.reader.now c.terminal.result c.terminal.ensures c.in-Real.is

pub read_rule-requires-in_default : goal.read_rule-requires-in_default
read_rule-requires-in_default c = predict.kind_else c.args.reader.now c.terminal.result c.terminal.ensures c.in_default.not-Int c.in_default.not-Real
