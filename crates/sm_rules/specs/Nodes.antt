-- The nodes of a tree, and what each still covers.
use Rattle.std.specs.Prelude.{◌≡◌, ◌≢◌, ℕ, List, [], ℤ, pos, Bool, true, false}
use Rattle.sm_kinds.specs.declared.literal.Literal.{Literal}
use Rattle.sm_kinds.specs.declared.literal.Test.TheVariants.{AtMost}
use Rattle.sm_kinds.specs.declared.var.VarKind.TheVariants.{Real}
use Rattle.sm_kinds.specs.Literals.{complement}
use Rattle.sm_kinds.specs.Points.{Point}
use Rattle.sm_store.specs.Stores.{Extent, extent_at, In, narrow, Narrows}
use Rattle.sm_rules.specs.declared.node.Status.{Status}
use Rattle.sm_rules.specs.declared.node.Status.TheVariants.{Open, Half, Split}

-- a node; its store is a list of domains, or of the literals that made it of its parent's
pub record NodeOf (E : Type 0) : Type 0 where
  pub number : ℕ
  pub parent : ℕ
  pub store : List E
  -- numerators and denominators, goal by goal
  pub floors : List (ℤ × ℤ)
  pub status : Status

-- a node as the state has it
abbrev pub NodeView : Type 0
NodeView = NodeOf Extent

-- a node as the code keeps it
abbrev pub KeptNode : Type 0
KeptNode = NodeOf Literal

-- the assignment lies in the open part of a node of this store and status: all of it, or the half that has no child yet
abbrev pub CoversPart : Point → List Extent → Status → Type 0
CoversPart a store Open = In a store
CoversPart a store (Half l) = In a (narrow store (complement l))
CoversPart a store (Split l) = ⊥

abbrev pub Covers : Point → NodeView → Type 0
Covers a n = CoversPart a n.store n.status

abbrev pub TakesChild : Status → Type 0
TakesChild Open = Unit {0}
TakesChild (Half l) = Unit {0}
TakesChild (Split l) = ⊥

-- the variable has whole values alone
abbrev pub IsDiscreteIn : List Extent → ℕ → Type 0
IsDiscreteIn store i = (extent_at store i).kind ≢ Real

-- the first child's literal and its complement both narrow the store and leave it nonempty, and its variable has whole values; the second child's literal is that complement
abbrev pub LawfulChild : List Extent → Status → Literal → Type 0
LawfulChild store Open l = Narrows store l × Narrows store (complement l) × IsDiscreteIn store l.var
LawfulChild store (Half first) l = l ≡ complement first
LawfulChild store (Split first) l = ⊥

abbrev pub with_child : Status → Literal → Status
with_child Open l = Half l
with_child (Half first) l = Split first
with_child (Split first) l = Split first

abbrev pub is_split : Status → Bool
is_split Open = false
is_split (Half l) = false
is_split (Split l) = true

abbrev pub no_literal : Literal
no_literal = record { var = 0; test = AtMost; bound = pos 0 }

-- what a number that no node has names: a node that covers nothing and takes no child
abbrev pub no_node : {E : Type 0} → NodeOf E
no_node = record { number = 0; parent = 0; store = []; floors = []; status = Split no_literal }
