-- The goals of a model are over the variables of its stores.
use Rattle.std.proofs.Common.{◌≡◌, ℕ, length}
use Rattle.std.specs.Prelude.{All}
use Rattle.sm_flat.specs.Limits.{IsFlat}
use Rattle.sm_flat.specs.Models.{FlatModel}
use Rattle.sm_rules.specs.Objectives.{IsGoalOver}

pub goals_over : (m : FlatModel) (n : ℕ) → IsFlat m → n ≡ length m.vars → All (IsGoalOver n) m.goals
goals_over m n flat wide k d lt = let g = flat.goals.each k d lt in record {
  known = rw wide g.sum.known;
  few = g.few;
  small = g.sum.small;
  constant = g.small;
}
