use Rattle.sm_syntax.proofs.Predictions as predict
use Rattle.sm_syntax.proofs.read_model.read_item.Goals as goal

pub read_rule_behind-requires : goal.read_rule_behind-requires
read_rule_behind-requires c = predict.item_var c.args.reader.now c.terminal.result c.terminal.ensures c.in-Var.is

pub read_rule_behind-requires-in-Post : goal.read_rule_behind-requires-in-Post
read_rule_behind-requires-in-Post c = predict.item_post c.args.reader.now c.terminal.result c.terminal.ensures c.in-Post.is

pub read_rule_behind-requires-in_default : goal.read_rule_behind-requires-in_default
read_rule_behind-requires-in_default c = predict.item_else c.args.reader.now c.terminal.result c.terminal.ensures c.in_default.not-Var c.in_default.not-Post
