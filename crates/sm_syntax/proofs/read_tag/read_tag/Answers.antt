use Rattle.sm_syntax.proofs.Predictions as predict
use Rattle.sm_syntax.proofs.read_tag.read_tag.Goals as goal

pub read_rule_behind-requires : goal.read_rule_behind-requires
read_rule_behind-requires c = predict.tag_relax c.args.reader.now c.terminal.result c.terminal.ensures c.in-Relax.is

pub read_rule_behind-requires-in-Branch : goal.read_rule_behind-requires-in-Branch
read_rule_behind-requires-in-Branch c = predict.tag_branch c.args.reader.now c.terminal.result c.terminal.ensures c.in-Branch.is

pub read_rule_behind-requires-in-Pick : goal.read_rule_behind-requires-in-Pick
read_rule_behind-requires-in-Pick c = predict.tag_pick c.args.reader.now c.terminal.result c.terminal.ensures c.in-Pick.is

pub read_rule_behind-requires-in-Split : goal.read_rule_behind-requires-in-Split
read_rule_behind-requires-in-Split c = predict.tag_split c.args.reader.now c.terminal.result c.terminal.ensures c.in-Split.is

pub read_rule_behind-requires-in-Sub : goal.read_rule_behind-requires-in-Sub
read_rule_behind-requires-in-Sub c = predict.tag_sub c.args.reader.now c.terminal.result c.terminal.ensures c.in-Sub.is

pub read_rule_behind-requires-in_default : goal.read_rule_behind-requires-in_default
read_rule_behind-requires-in_default c = predict.tag_else c.args.reader.now c.terminal.result c.terminal.ensures c.in_default.not-Relax c.in_default.not-Branch c.in_default.not-Pick c.in_default.not-Split c.in_default.not-Sub
