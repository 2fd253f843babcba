-- How the code keeps a tree: each node has the literals that made its store of its parent's.
use Rattle.std.specs.Prelude.{◌≡◌, ◌≢◌, ℕ, ◌<◌, ◌≤◌, ◌^◌, List, [], ◌∷◌, ◌++◌, length, ◌==◌, All, AllPairs, Option, Some, None, slice_set, unsigned_abs, if◌then◌else◌}
use Rattle.sm_kinds.specs.declared.literal.Literal.{Literal}
use Rattle.sm_flat.specs.Models.{FlatModel}
use Rattle.sm_store.specs.Stores.{Extent, narrow_all}
use Rattle.sm_rules.specs.declared.node.Status.{Status}
use Rattle.sm_rules.specs.declared.node.Status.TheVariants.{Open, Half, Split}
use Rattle.sm_step.specs.declared.line.Outcome.{Outcome}
use Rattle.sm_step.specs.declared.line.Outcome.TheVariants.{Close, Literals}
use Rattle.sm_rules.specs.Floors.{raised}
use Rattle.sm_rules.specs.Objectives.{least_costs}
use Rattle.sm_rules.specs.Trees.{raised_first}
use Rattle.sm_rules.specs.Nodes.{NodeOf, NodeView, KeptNode, with_child}
use Rattle.sm_rules.specs.Places.{AreRising, at_place}

-- the node, where these are the stores of the nodes before it
abbrev pub node_of : (ℕ → List Extent) → KeptNode → NodeView
node_of stores n = record { number = n.number; parent = n.parent; store = narrow_all (stores n.parent) n.store; floors = n.floors; status = n.status }

-- the stores by number, once this node is known
abbrev pub with_store : (ℕ → List Extent) → NodeView → ℕ → List Extent
with_store stores n k = if n.number == k then n.store else stores k

-- the nodes in order; a parent comes before its children
abbrev pub nodes_of : (ℕ → List Extent) → List KeptNode → List NodeView
nodes_of stores [] = []
nodes_of stores (n ∷ ns) = node_of stores n ∷ nodes_of (with_store stores (node_of stores n)) ns

-- the nodes over the declared store, which is that of the root
abbrev pub nodes_over : List Extent → List KeptNode → List NodeView
nodes_over declared ns = nodes_of (λ _. declared) ns

-- the store narrowed along a path of places, whose last is the highest
abbrev pub narrow_along : List Extent → List KeptNode → List ℕ → List Extent
narrow_along store ns [] = store
narrow_along store ns (p ∷ ps) = narrow_all (narrow_along store ns ps) (at_place ns p).store

-- the first of the two stores, where there is one
abbrev pub store_or : Option (List Extent) → List Extent → List Extent
store_or None other = other
store_or (Some store) other = store

-- ---- a child joins

abbrev pub marked : KeptNode → Literal → KeptNode
marked n l = record n { status = with_child n.status l }

-- the child that a literal opens under a node, where this is the child's store
abbrev pub kept_child : FlatModel → ℕ → KeptNode → Literal → List Extent → KeptNode
kept_child m number parent l store = record {
  number = number;
  parent = parent.number;
  store = l ∷ [];
  floors = raised parent.floors (least_costs m.goals store);
  status = Open;
}

-- the nodes with one child more under the node at a place
abbrev pub with_kept_child : FlatModel → List KeptNode → ℕ → ℕ → Literal → List Extent → List KeptNode
with_kept_child m ns place number l store = slice_set ns place (marked (at_place ns place) l) ++ kept_child m number (at_place ns place) l store ∷ []

-- ---- the focus is narrowed, or its floors raised

abbrev pub narrowed_node : KeptNode → List Literal → KeptNode
narrowed_node n ls = record n { store = n.store ++ ls }

abbrev pub with_narrowed : List KeptNode → ℕ → List Literal → List KeptNode
with_narrowed ns place ls = slice_set ns place (narrowed_node (at_place ns place) ls)

abbrev pub raised_node : FlatModel → List Extent → KeptNode → KeptNode
raised_node m store n = record n { floors = raised_first m.goals store n.floors }

abbrev pub with_raised : FlatModel → List Extent → List KeptNode → ℕ → List KeptNode
with_raised m store ns place = slice_set ns place (raised_node m store (at_place ns place))

-- ---- what holds of them

-- the first child's literal is of a known variable, and small enough to have a complement
pub record IsHalfKnown (width : ℕ) (first : Literal) : Type 0 where
  pub known : first.var < width
  pub bounded : unsigned_abs first.bound ≤ 2 ^ 32

abbrev pub IsStatusKnown : ℕ → Status → Type 0
IsStatusKnown width Open = Unit {0}
IsStatusKnown width (Half first) = IsHalfKnown width first
IsStatusKnown width (Split first) = Unit {0}

abbrev pub AreKnown : ℕ → List Literal → Type 0
AreKnown width ls = All (λ (l : Literal). l.var < width) ls

-- what an inference comes to is of known variables
abbrev pub IsOutcomeKnown : ℕ → Outcome → Type 0
IsOutcomeKnown width Close = Unit {0}
IsOutcomeKnown width (Literals ls) = AreKnown width ls

-- the literals of the node are of known variables
pub record IsNodeKnown (width : ℕ) (n : KeptNode) : Type 0 where
  pub literals : AreKnown width n.store
  pub status : IsStatusKnown width n.status

-- the later node isn't a child of the other, if that is open
abbrev pub IsNotUnder : {E : Type 0} → NodeOf E → NodeOf E → Type 0
IsNotUnder n child = child.parent ≡ n.number → n.status ≢ Open

-- where the node is the focus, the store is its own
abbrev pub IsHeld : ℕ → List Extent → NodeView → Type 0
IsHeld focus store n = n.number ≡ focus → n.store ≡ store

-- the nodes rise by number, all below the count; no open one has a child; and the store is that of the focus, if it is left
pub record IsKept (declared : List Extent) (ns : List KeptNode) (count focus : ℕ) (store : List Extent) : Type 0 where
  pub rising : AreRising ns
  pub below : All (λ (n : KeptNode). n.number < count) ns
  pub childless : AllPairs (λ (n k : KeptNode). IsNotUnder n k) ns
  pub known : All (λ (n : KeptNode). IsNodeKnown (length declared) n) ns
  pub held : All (IsHeld focus store) (nodes_over declared ns)
