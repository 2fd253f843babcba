-- Places of nodes in a list.
use Rattle.std.specs.Prelude.{◌≡◌, ℕ, ◌<◌, List, length, AllPairs, slice_index_or}
use Rattle.sm_rules.specs.Nodes.{NodeOf, no_node}

-- the numbers of the nodes rise
abbrev pub AreRising : {E : Type 0} → List (NodeOf E) → Type 0
AreRising {E = E} nodes = AllPairs (λ (n k : NodeOf E). n.number < k.number) nodes

abbrev pub at_place : {E : Type 0} → List (NodeOf E) → ℕ → NodeOf E
at_place nodes place = slice_index_or nodes place no_node

-- the node at this place has this number
pub record IsPlace {E : Type 0} (nodes : List (NodeOf E)) (place number : ℕ) : Type 0 where
  pub within : place < length nodes
  pub here : (at_place nodes place).number ≡ number
