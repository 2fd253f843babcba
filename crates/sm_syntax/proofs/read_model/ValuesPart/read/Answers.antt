use Rattle.sm_syntax.proofs.Predictions as predict
use Rattle.sm_syntax.proofs.read_model.ValuesPart.read.Goals as goal

pub read_rule-requires : goal.read_rule-requires
read_rule-requires c = predict.values_open_brace c.args.reader.now c.terminal.result c.terminal.ensures c.in-OpenBrace.is

pub read_rule-requires-in_default : goal.read_rule-requires-in_default
read_rule-requires-in_default c = predict.values_else c.args.reader.now c.terminal.result c.terminal.ensures c.in_default.not-OpenBrace
