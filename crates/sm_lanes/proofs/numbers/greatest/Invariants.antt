use Rattle.std.proofs.Common.{◌≡◌, ◌≤◌, ◌-◌}
use Rattle.std.specs.Prelude.{◌⊎◌}
use Rattle.std.specs.Prelude.{◌≤ℤ◌}
use Rattle.sm_lanes.specs.Numbers.{IsAtMost, IsAmong}
use Rattle.sm_lanes.proofs.numbers.greatest.Given as goal

abbrev pub invariant-loop-at : goal.invariant-loop-at
invariant-loop-at l = record {
  low : l.from ≤ l.at;
  high : l.at ≤ l.to;
  reached : (l.most ≡ l.start) ⊎ IsAmong l.numbers l.from l.to l.most;
  start : l.start ≤ℤ l.most;
  greatest : IsAtMost l.numbers l.from l.at l.most;
}

abbrev pub decreases-loop-at : goal.decreases-loop-at
decreases-loop-at l = l.to - l.at
