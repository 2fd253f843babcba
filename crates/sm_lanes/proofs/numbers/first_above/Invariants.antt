use Rattle.std.proofs.Common.{◌≡◌, ◌≤◌, ◌-◌, length}
use Rattle.sm_lanes.specs.Numbers.{IsAtMost}
use Rattle.sm_lanes.proofs.numbers.first_above.Given as goal

abbrev pub invariant-loop-at : goal.invariant-loop-at
invariant-loop-at l = record {
  low : l.from ≤ l.at;
  long : l.len ≡ length l.numbers;
  quiet : IsAtMost l.numbers l.from l.at l.bound;
}

abbrev pub decreases-loop-at : goal.decreases-loop-at
decreases-loop-at l = l.len - l.at

abbrev pub invariant-loop-at-2 : goal.invariant-loop-at-2
invariant-loop-at-2 l = record {
  low : l.from ≤ l.at;
  long : l.len ≡ length l.numbers;
  quiet : IsAtMost l.numbers l.from l.at l.bound;
}

abbrev pub decreases-loop-at-2 : goal.decreases-loop-at-2
decreases-loop-at-2 l = l.len - l.at
