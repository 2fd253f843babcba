use Rattle.std.proofs.Common.{◌≡◌, ℕ, ◌<◌, ◌≤◌, ◌-◌, get_or, length}
use Rattle.sm_lanes.proofs.bits.first_one.Given as goal

abbrev pub invariant-loop-at : goal.invariant-loop-at
invariant-loop-at l = record {
  low : l.at ≤ l.len;
  long : l.len ≡ length l.words;
  zero_before : (k : ℕ) → k < l.at → get_or l.words k 0 ≡ 0;
}

abbrev pub decreases-loop-at : goal.decreases-loop-at
decreases-loop-at l = l.len - l.at

abbrev pub invariant-loop-at-2 : goal.invariant-loop-at-2
invariant-loop-at-2 l = record {
  low : l.at ≤ l.len;
  long : l.len ≡ length l.words;
  zero_before : (k : ℕ) → k < l.at → get_or l.words k 0 ≡ 0;
}

abbrev pub decreases-loop-at-2 : goal.decreases-loop-at-2
decreases-loop-at-2 l = l.len - l.at
