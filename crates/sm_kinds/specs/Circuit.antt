-- Circuit: starting at 0 and following x, all n nodes are visited before the n-th step, which returns to 0; with no node it holds.
use Rattle.std.specs.Prelude.{◌≡◌, ℕ, ◌+◌, ◌<◌, ◌≤◌, List, length, pos, All, slice_index_or}
use Rattle.sm_kinds.specs.declared.var.Var.{Var}
use Rattle.sm_kinds.specs.Limits.{most_terms}
use Rattle.sm_kinds.specs.Points.{Point, HasValue}
use Rattle.sm_kinds.specs.Vars.{IsSet}

-- ---- its limits, and how its parts fit

pub record IsCircuit (vars : List Var) (successors : List ℕ) : Type 0 where
  pub few : length successors ≤ most_terms
  pub each : All (IsSet vars) successors

-- ---- its size

abbrev pub circuit_size : List ℕ → ℕ
circuit_size successors = 0

-- ---- its variables

-- each of its variables has this property
abbrev pub EachCircuitVar : (ℕ → Type 0) → List ℕ → Type 0
EachCircuitVar P successors = All P successors

-- ---- when it holds

-- the variable that has the number of the node after this one
abbrev pub successor_of : List ℕ → ℕ → ℕ
successor_of successors node = slice_index_or successors node 0

-- Of a tour from node 0 on, each stop is followed by the node that its variable names, each node is one of the first n stops,
-- and the stop after these is node 0 again.
pub record SatCircuit (successors : List ℕ) (a : Point) : Type 0 where
  pub stop : ℕ → ℕ
  pub first : stop 0 ≡ 0
  pub follows : (k : ℕ) → k < length successors → HasValue a (successor_of successors (stop k)) (pos (stop (k + 1)))
  pub visited : (node : ℕ) → node < length successors → (k : ℕ) × (k < length successors) × (stop k ≡ node)
  pub returns : stop (length successors) ≡ 0
