use Rattle.std.proofs.Common.{◌≡◌, ℕ, ◌<◌, ◌≤◌, ◌-◌, get_or, length}
use Rattle.std.specs.Prelude.{bit_and}
use Rattle.std.specs.Int.{bit_not, w64}
use Rattle.sm_lanes.proofs.bits.is_subset.Given as goal

abbrev pub invariant-loop-at : goal.invariant-loop-at
invariant-loop-at l = record {
  low : l.at ≤ l.len;
  long : l.len ≡ length l.inner;
  covered : (k : ℕ) → k < l.at → bit_and (get_or l.inner k 0) (bit_not w64 (get_or l.outer k 0)) ≡ 0;
}

abbrev pub decreases-loop-at : goal.decreases-loop-at
decreases-loop-at l = l.len - l.at

abbrev pub invariant-loop-at-2 : goal.invariant-loop-at-2
invariant-loop-at-2 l = record {
  low : l.at ≤ l.len;
  long : l.len ≡ length l.inner;
  covered : (k : ℕ) → k < l.at → bit_and (get_or l.inner k 0) (bit_not w64 (get_or l.outer k 0)) ≡ 0;
}

abbrev pub decreases-loop-at-2 : goal.decreases-loop-at-2
decreases-loop-at-2 l = l.len - l.at
