use Rattle.std.proofs.Common.{◌≡◌, ◌≤◌, ◌-◌, take, length}
use Rattle.std.specs.Prelude.{sum_by, count_ones}
use Rattle.sm_lanes.proofs.bits.count_ones.Given as goal

abbrev pub invariant-loop-at : goal.invariant-loop-at
invariant-loop-at l = record {
  low : l.at ≤ l.len;
  long : l.len ≡ length l.words;
  counted : l.total ≡ sum_by count_ones (take l.at l.words);
}

abbrev pub decreases-loop-at : goal.decreases-loop-at
decreases-loop-at l = l.len - l.at
