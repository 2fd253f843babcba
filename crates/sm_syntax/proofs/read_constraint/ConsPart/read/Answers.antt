use Rattle.sm_syntax.proofs.Predictions as predict
use Rattle.sm_syntax.proofs.read_constraint.ConsPart.read.Goals as goal

pub read_rule-requires : goal.read_rule-requires
read_rule-requires c = predict.cons_logic c.args.reader.now c.terminal.result c.terminal.ensures c.in-Logic.is

pub read_rule-requires-in-When : goal.read_rule-requires-in-When
read_rule-requires-in-When c = predict.cons_when c.args.reader.now c.terminal.result c.terminal.ensures c.in-When.is

pub read_rule-requires-in-Alldiff : goal.read_rule-requires-in-Alldiff
read_rule-requires-in-Alldiff c = predict.cons_alldiff c.args.reader.now c.terminal.result c.terminal.ensures c.in-Alldiff.is

pub read_rule-requires-in-Circuit : goal.read_rule-requires-in-Circuit
read_rule-requires-in-Circuit c = predict.cons_circuit c.args.reader.now c.terminal.result c.terminal.ensures c.in-Circuit.is

pub read_rule-requires-in-Element : goal.read_rule-requires-in-Element
read_rule-requires-in-Element c = predict.cons_element c.args.reader.now c.terminal.result c.terminal.ensures c.in-Element.is

pub read_rule-requires-in-Indexsum : goal.read_rule-requires-in-Indexsum
read_rule-requires-in-Indexsum c = predict.cons_indexsum c.args.reader.now c.terminal.result c.terminal.ensures c.in-Indexsum.is

pub read_rule-requires-in-Assign : goal.read_rule-requires-in-Assign
read_rule-requires-in-Assign c = predict.cons_assign c.args.reader.now c.terminal.result c.terminal.ensures c.in-Assign.is

pub read_rule-requires-in-Cumulative : goal.read_rule-requires-in-Cumulative
read_rule-requires-in-Cumulative c = predict.cons_cumulative c.args.reader.now c.terminal.result c.terminal.ensures c.in-Cumulative.is

pub read_rule-requires-in-Disjunctive : goal.read_rule-requires-in-Disjunctive
read_rule-requires-in-Disjunctive c = predict.cons_disjunctive c.args.reader.now c.terminal.result c.terminal.ensures c.in-Disjunctive.is

pub read_rule-requires-in-Packing : goal.read_rule-requires-in-Packing
read_rule-requires-in-Packing c = predict.cons_packing c.args.reader.now c.terminal.result c.terminal.ensures c.in-Packing.is

pub read_rule-requires-in_default : goal.read_rule-requires-in_default
read_rule-requires-in_default c = predict.cons_else c.args.reader.now c.terminal.result c.terminal.ensures c.in_default.not-Logic c.in_default.not-When c.in_default.not-Alldiff c.in_default.not-Circuit c.in_default.not-Element c.in_default.not-Indexsum c.in_default.not-Assign c.in_default.not-Cumulative c.in_default.not-Disjunctive c.in_default.not-Packing
