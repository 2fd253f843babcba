use Rattle.std.proofs.Common.{◌-◌, ◌<◌, ◌≤◌, ℕ, length}
use Rattle.sm_rules.specs.Places.{at_place}
use Rattle.sm_rules.proofs.tree.place_of.Given as goal

abbrev pub invariant-loop-low : goal.invariant-loop-low
invariant-loop-low l = record {
  order : l.low ≤ l.high;
  within : l.high ≤ length l.nodes;
  below : (k : ℕ) → k < l.low → (at_place l.nodes k).number < l.number;
  above : (k : ℕ) → l.high ≤ k → k < length l.nodes → l.number < (at_place l.nodes k).number;
}

abbrev pub decreases-loop-low : goal.decreases-loop-low
decreases-loop-low l = l.high - l.low
