use Rattle.std.proofs.Common.{◌+◌, ◌-◌, ◌/◌, ◌<◌, ℕ, length, arith}
use Rattle.sm_rules.proofs.Places.{at_read, low_moves, high_moves, none_between}
use Rattle.sm_rules.proofs.tree.place_of.Goals as goal

pub loop-low-preserved-then-found-number-2 : goal.loop-low-preserved-then-found-number-2
loop-low-preserved-then-found-number-2 c =
    let ns = c.args.nodes.now in
    let middle : ℕ = c.loop-low.low + (c.loop-low.high - c.loop-low.low) / 2 in
    let lt : middle < length ns = omega arith in
    let is = at_read ns middle c.index-nodes-middle.result lt c.index-nodes-middle.is in
    record {
      order = omega arith;
      within = omega arith;
      below = low_moves ns middle c.args.number c.requires lt (rw is (omega arith));
      above = c.loop-low.invariant.above;
    }

pub loop-low-preserved : goal.loop-low-preserved
loop-low-preserved c =
    let ns = c.args.nodes.now in
    let middle : ℕ = c.loop-low.low + (c.loop-low.high - c.loop-low.low) / 2 in
    let lt : middle < length ns = omega arith in
    let is = at_read ns middle c.index-nodes-middle.result lt c.index-nodes-middle.is in
    record {
      order = omega arith;
      within = omega arith;
      below = c.loop-low.invariant.below;
      above = high_moves ns middle c.args.number c.requires lt (rw is (omega arith));
    }

pub returns-clause-none : goal.returns-clause-none
returns-clause-none c = none_between c.args.nodes.now c.loop-low.low c.loop-low.high c.args.number c.loop-low-test.false c.loop-low.invariant.below c.loop-low.invariant.above
