use Rattle.std.proofs.Common.{◌≤◌, ◌-◌}
use Rattle.sm_lanes.specs.Numbers.{AddsOver, SameBelow, SameFrom}
use Rattle.sm_lanes.proofs.numbers.add_over.Given as goal

abbrev pub invariant-loop-at : goal.invariant-loop-at
invariant-loop-at l = record {
  low : l.at ≤ l.to;
  high : l.from ≤ l.at;
  done : AddsOver l.fn.numbers l.numbers l.from l.at l.amount;
  before : SameBelow l.fn.numbers l.numbers l.from;
  rest : SameFrom l.fn.numbers l.numbers l.at;
}

abbrev pub decreases-loop-at : goal.decreases-loop-at
decreases-loop-at l = l.to - l.at

abbrev pub invariant-loop-at-2 : goal.invariant-loop-at-2
invariant-loop-at-2 l = record {
  low : l.at ≤ l.to;
  high : l.from ≤ l.at;
  done : AddsOver l.fn.numbers l.numbers l.from l.at l.amount;
  before : SameBelow l.fn.numbers l.numbers l.from;
  rest : SameFrom l.fn.numbers l.numbers l.at;
}

abbrev pub decreases-loop-at-2 : goal.decreases-loop-at-2
decreases-loop-at-2 l = l.to - l.at
