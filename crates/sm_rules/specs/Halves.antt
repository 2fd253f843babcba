-- Nodes with one child.
use Rattle.std.specs.Prelude.{◌≡◌, ℕ, ◌<◌, List, All}
use Rattle.sm_kinds.specs.declared.literal.Literal.{Literal}
use Rattle.sm_kinds.specs.Literals.{complement}
use Rattle.sm_rules.specs.declared.node.Status.{Status}
use Rattle.sm_rules.specs.declared.node.Status.TheVariants.{Open, Half, Split}
use Rattle.sm_rules.specs.Nodes.{NodeOf}
use Rattle.sm_rules.specs.Trees.{node_at}

-- the node has one child
abbrev pub HasOneChild : Status → Type 0
HasOneChild Open = ⊥
HasOneChild (Half first) = Unit {0}
HasOneChild (Split first) = ⊥

-- the node of this number has one child, it is the last that has, and the literal is the complement of that child's
pub record IsLastHalf {E : Type 0} (nodes : List (NodeOf E)) (number : ℕ) (literal : Literal) : Type 0 where
  pub first : Literal
  pub status : (node_at nodes number).status ≡ Half first
  pub other : literal ≡ complement first
  pub last : All (λ (n : NodeOf E). HasOneChild n.status → number < n.number → ⊥) nodes
