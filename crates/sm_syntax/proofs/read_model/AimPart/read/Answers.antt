use Rattle.sm_syntax.proofs.Predictions as predict
use Rattle.sm_syntax.proofs.read_model.AimPart.read.Goals as goal

pub read_rule-requires : goal.read_rule-requires
read_rule-requires c = predict.aim_maximise c.args.reader.now c.terminal.result c.terminal.ensures c.in-Maximise.is

pub read_rule-requires-in_default : goal.read_rule-requires-in_default
read_rule-requires-in_default c = predict.aim_else c.args.reader.now c.terminal.result c.terminal.ensures c.in_default.not-Maximise
