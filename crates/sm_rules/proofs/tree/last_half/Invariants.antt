use Rattle.std.proofs.Common.{ℕ, ◌<◌, ◌≤◌, length}
use Rattle.sm_rules.specs.Halves.{HasOneChild}
use Rattle.sm_rules.specs.Places.{at_place}
use Rattle.sm_rules.proofs.tree.last_half.Given as goal

abbrev pub invariant-loop-rest : goal.invariant-loop-rest
invariant-loop-rest l = record {
  within : l.rest ≤ length l.nodes;
  none : (k : ℕ) → l.rest ≤ k → k < length l.nodes → HasOneChild (at_place l.nodes k).status → ⊥;
}

abbrev pub decreases-loop-rest : goal.decreases-loop-rest
decreases-loop-rest l = l.rest
