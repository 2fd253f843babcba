use Rattle.std.proofs.Common.{arith}
use Rattle.sm_lp.specs.Table.{dictionary_of}
use Rattle.sm_lp.specs.Ending.{slack_of}
use Rattle.sm_lp.specs.Answer.{row_multipliers}
use Rattle.sm_lp.proofs.MultiplierLemmas.{left_count, left_apart, more_apart, more_made, all_made}
use Rattle.sm_lp.proofs.ending.row_multipliers.Goals as goal

pub row_multiplier-requires-clause-small : goal.row_multiplier-requires-clause-small
row_multiplier-requires-clause-small c =
    let n = left_count c.args.rows.now c.loop-row.row-index c.row-item.result c.loop-row-test.true c.row-item.is in
    let count = c.loop-row.invariant.count in
    let small = c.requires.small in
    omega arith

pub row_multiplier-requires-clause-apart : goal.row_multiplier-requires-clause-apart
row_multiplier-requires-clause-apart c = left_apart c.args.rows.now c.loop-row.row-index c.row-item.result (slack_of c.args.table.now.constant c.args.table.now.goal (dictionary_of c.args.table.now) c.args.infeasible) c.loop-row.slack c.loop-row-test.true c.row-item.is c.loop-row.invariant.apart

pub overflow_add-slack : goal.overflow_add-slack
overflow_add-slack c =
    let n = left_count c.args.rows.now c.loop-row.row-index c.row-item.result c.loop-row-test.true c.row-item.is in
    let count = c.loop-row.invariant.count in
    let small = c.requires.small in
    let is = c.halves_in.ensures.count in
    omega arith

pub loop-row-preserved : goal.loop-row-preserved
loop-row-preserved c =
    let rows = c.args.rows.now in
    let i = c.loop-row.row-index in
    let row = c.row-item.result in
    let t = c.args.table.now in
    let s = slack_of t.constant t.goal (dictionary_of t) c.args.infeasible in
    let k = c.loop-row.slack in
    let n = left_count rows i row c.loop-row-test.true c.row-item.is in
    let is = c.halves_in.ensures.count in
    let count = c.loop-row.invariant.count in
    record {
      made = more_made rows i row s k c.halves_in.result c.loop-row.multipliers.items c.push.new.self.items c.row_multiplier.result (row_multipliers rows s t.constant) c.loop-row-test.true c.row-item.is is c.in_ok-push.ensures.items c.row_multiplier.ensures c.loop-row.invariant.made;
      count = omega arith;
      apart = more_apart rows i row s k c.halves_in.result c.loop-row-test.true c.row-item.is is c.loop-row.invariant.apart;
    }

pub returns : goal.returns
returns c =
    let t = c.args.table.now in
    let s = slack_of t.constant t.goal (dictionary_of t) c.args.infeasible in
    all_made c.args.rows.now c.loop-row.row-index s c.loop-row.slack c.loop-row.multipliers.items (row_multipliers c.args.rows.now s t.constant) (let no = c.loop-row-test.false in omega arith) c.loop-row.invariant.made
