use Rattle.sm_syntax.proofs.Predictions as predict
use Rattle.sm_syntax.proofs.read_model.GoalPart.read.Goals as goal

pub read_aims-requires : goal.read_aims-requires
read_aims-requires c = predict.goal_minimise c.args.reader.now c.terminal.result c.terminal.ensures c.in-Minimise.is

pub read_aims-requires-in-Maximise : goal.read_aims-requires-in-Maximise
read_aims-requires-in-Maximise c = predict.goal_maximise c.args.reader.now c.terminal.result c.terminal.ensures c.in-Maximise.is

pub read_rule-requires : goal.read_rule-requires
read_rule-requires c = predict.goal_else c.args.reader.now c.terminal.result c.terminal.ensures c.in_default.not-Minimise c.in_default.not-Maximise
