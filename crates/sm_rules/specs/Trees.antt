-- A tree: its nodes whose own tree isn't refuted, in order of their numbers.
use Rattle.std.specs.Prelude.{◌≡◌, ℕ, ◌+◌, ◌<◌, List, [], ◌∷◌, ◌++◌, ℤ, pos, Bool, ◌&&◌, not, ◌==◌, All, AllPairs, ◌⊎◌, if◌then◌else◌}
use Rattle.std.specs.List.{list_all, list_any}
use Rattle.sm_kinds.specs.declared.literal.Literal.{Literal}
use Rattle.sm_flat.specs.Models.{FlatModel}
use Rattle.sm_kinds.specs.Points.{Point}
use Rattle.sm_flat.specs.declared.goal.Goal.{Goal}
use Rattle.sm_store.specs.Stores.{Extent, In, narrow, narrow_all, is_empty}
use Rattle.sm_rules.specs.declared.node.Status.TheVariants.{Open}
use Rattle.sm_rules.specs.Floors.{AreFloors, numbers_of, greater, raised}
use Rattle.sm_rules.specs.Objectives.{costs, least_cost, least_costs}
use Rattle.sm_rules.specs.Nodes.{NodeOf, NodeView, no_node, Covers, is_split, with_child}

pub record Tree : Type 0 where
  pub nodes : List NodeView
  -- how many nodes it ever had, which is the next node's number
  pub count : ℕ
  pub focus : ℕ

-- the node of a number
abbrev pub node_at : {E : Type 0} → List (NodeOf E) → ℕ → NodeOf E
node_at [] k = no_node
node_at (n ∷ ns) k = if n.number == k then n else node_at ns k

-- the nodes with this one in the place of the node of a number
abbrev pub set_node : {E : Type 0} → List (NodeOf E) → ℕ → NodeOf E → List (NodeOf E)
set_node [] k new = []
set_node (n ∷ ns) k new = if n.number == k then new ∷ ns else n ∷ set_node ns k new

-- the nodes without the node of a number
abbrev pub without_node : {E : Type 0} → List (NodeOf E) → ℕ → List (NodeOf E)
without_node [] k = []
without_node (n ∷ ns) k = if n.number == k then ns else n ∷ without_node ns k

-- none of these is a child of the node of that number
abbrev pub has_no_child : {E : Type 0} → ℕ → List (NodeOf E) → Bool
has_no_child k ns = list_all (λ c. not (c.parent == k)) ns

-- the node has two children, and neither is among those that come after it
abbrev pub is_done : {E : Type 0} → NodeOf E → List (NodeOf E) → Bool
is_done n after = is_split n.status && has_no_child n.number after

-- the nodes without those that have two children of which none is left
abbrev pub pruned : {E : Type 0} → List (NodeOf E) → List (NodeOf E)
pruned [] = []
pruned (n ∷ ns) = if is_done n (pruned ns) then pruned ns else n ∷ pruned ns

-- a tree is refuted where none of its nodes is left
abbrev pub IsRefuted : Tree → Type 0
IsRefuted t = t.nodes ≡ []

-- ---- steps

abbrev pub focus_of : Tree → NodeView
focus_of t = node_at t.nodes t.focus

-- the focus is closed: it is dropped, and with it each node above whose own tree is refuted then
abbrev pub close_focus : Tree → Tree
close_focus t = record t { nodes = pruned (without_node t.nodes t.focus) }

-- some variable has no value
abbrev pub has_empty : List Extent → Bool
has_empty store = list_any (λ (e : Extent). is_empty e.values) store

-- this node in the place of the focus
abbrev pub with_focus : Tree → NodeView → Tree
with_focus t new = record t { nodes = set_node t.nodes t.focus new }

-- the focus with the part of its store that the literals leave, one after the other
abbrev pub narrowed_focus : List Literal → Tree → NodeView
narrowed_focus ls t = record (focus_of t) { store = narrow_all (focus_of t).store ls }

-- the focus is narrowed by the literals; it is closed where a variable has no value then
abbrev pub narrow_focus : List Literal → Tree → Tree
narrow_focus ls t = if has_empty (narrow_all (focus_of t).store ls) then close_focus t else with_focus t (narrowed_focus ls t)

-- the first floor becomes the least cost of the first goal over the store, where that is greater
abbrev pub raised_first : List Goal → List Extent → List (ℤ × ℤ) → List (ℤ × ℤ)
raised_first [] store fs = fs
raised_first (g ∷ gs) store [] = []
raised_first (g ∷ gs) store (f ∷ fs) = greater f (least_cost store g, pos 1) ∷ fs

-- the focus with its first floor raised
abbrev pub raise_focus : FlatModel → Tree → Tree
raise_focus m t = with_focus t (record (focus_of t) { floors = raised_first m.goals (focus_of t).store (focus_of t).floors })

-- the child that a literal opens: its floors are the parent's, or the least costs over its store where these are greater
abbrev pub child_of : FlatModel → ℕ → NodeView → Literal → NodeView
child_of m number parent l = record {
  number = number;
  parent = parent.number;
  store = narrow parent.store l;
  floors = raised parent.floors (least_costs m.goals (narrow parent.store l));
  status = Open;
}

-- a child opens under a parent, and becomes the focus
abbrev pub open_child : FlatModel → Tree → ℕ → Literal → Tree
open_child m t parent l =
    let old = node_at t.nodes parent in
    record {
      nodes = set_node t.nodes parent (record old { status = with_child old.status l }) ++ child_of m t.count old l ∷ [];
      count = t.count + 1;
      focus = t.count;
    }

-- the tree of one open node with this store
abbrev pub root_of : FlatModel → List Extent → Tree
root_of m store = record {
  nodes = record { number = 0; parent = 0; store = store; floors = least_costs m.goals store; status = Open } ∷ [];
  count = 1;
  focus = 0;
}

-- ---- what holds of a tree

-- some node covers the assignment
abbrev pub Covered : Point → List NodeView → Type 0
Covered a [] = ⊥
Covered a (n ∷ ns) = Covers a n ⊎ Covered a ns

-- the assignment costs at least the floors of each node in whose store it lies
abbrev pub AllLow : FlatModel → Point → List NodeView → Type 0
AllLow m a [] = Unit {0}
AllLow m a (n ∷ ns) = (In a n.store → AreFloors (numbers_of n.floors) (costs m a)) × AllLow m a ns

-- each assignment of the family is covered, and costs at least the floors of each node in whose store it lies
pub record TreeSound (m : FlatModel) (P : Point → Type 0) (nodes : List NodeView) : Type 0 where
  pub covered : (a : Point) → P a → Covered a nodes
  pub floors : (a : Point) → P a → AllLow m a nodes

-- the nodes come in order of their numbers, which are below the count
pub record IsNumbered (t : Tree) : Type 0 where
  pub rising : AllPairs (λ (n k : NodeView). n.number < k.number) t.nodes
  pub below : All (λ (n : NodeView). n.number < t.count) t.nodes
