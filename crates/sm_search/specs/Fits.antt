-- What holds of a search all along.
use Rattle.std.specs.Prelude.{◌≡◌, ◌≢◌, ◌⊎◌, ℕ, ◌<◌, List, length, true, ℤ, pos, All, None, IsSome, IfSome}
use Rattle.sm_kinds.specs.declared.var.Var.{Var}
use Rattle.sm_kinds.specs.declared.var.VarKind.TheVariants.{Real}
use Rattle.sm_kinds.specs.Literals.{complement}
use Rattle.sm_flat.specs.Models.{FlatModel}
use Rattle.sm_store.specs.Stores.{Extent, extent_at, narrow}
use Rattle.sm_step.specs.declared.line.Line.{Line}
use Rattle.sm_step.specs.declared.line.Line.TheVariants as line
use Rattle.sm_step.specs.Grammar.{IsLiteral}
use Rattle.sm_step.specs.Verdicts.{IsTrueOf}
use Rattle.sm_rules.specs.declared.node.Status.{Status}
use Rattle.sm_rules.specs.declared.node.Status.TheVariants.{Open, Half, Split}
use Rattle.sm_rules.specs.Floors.{AreFloors, numbers_of}
use Rattle.sm_rules.specs.Objectives.{least_costs}
use Rattle.sm_rules.specs.Nodes.{NodeView}
use Rattle.sm_rules.specs.Trees.{focus_of}
use Rattle.sm_rules.specs.States.{State}
use Rattle.sm_rules.specs.Sound.{Sound, IsOf}

-- each variable has a value left
abbrev pub AreFilled : List Extent → Type 0
AreFilled store = (i : ℕ) → i < length store → 0 < length (extent_at store i).values

-- what a node still covers has a value left for each variable
abbrev pub IsFilled : List Extent → Status → Type 0
IsFilled store Open = AreFilled store
IsFilled store (Half l) = AreFilled (narrow store (complement l))
IsFilled store (Split l) = Unit {0}

-- an open node's floors are at least the least costs over its store
abbrev pub IsRaised : FlatModel → List Extent → List (ℤ × ℤ) → Status → Type 0
IsRaised m store floors Open = AreFloors (numbers_of (least_costs m.goals store)) (numbers_of floors)
IsRaised m store floors (Half l) = Unit {0}
IsRaised m store floors (Split l) = Unit {0}

-- the literal of the half that has no child yet is one of the grammar
abbrev pub IsNear : Status → Type 0
IsNear Open = Unit {0}
IsNear (Half first) = IsLiteral (complement first)
IsNear (Split first) = Unit {0}

-- no node is open but the focus
abbrev pub IsOnly : ℕ → NodeView → Type 0
IsOnly focus n = n.status ≡ Open → n.number ≡ focus

-- no variable is real
abbrev pub AreDiscrete : List Var → Type 0
AreDiscrete vars = All (λ (v : Var). v.kind ≢ Real) vars

pub record IsFit (m : FlatModel) (s : State) : Type 0 where
  pub of : IsOf m s
  pub discrete : AreDiscrete m.vars
  pub sound : Sound m (λ _. true) s
  pub says : IfSome s.verdict (IsTrueOf m s.best)
  pub whole : IfSome s.best (λ b. b.denominator ≡ pos 1)
  pub only : All (λ (n : NodeView). IsOnly s.main.focus n) s.main.nodes
  pub filled : All (λ (n : NodeView). IsFilled n.store n.status) s.main.nodes
  pub raised : All (λ (n : NodeView). IsRaised m n.store n.floors n.status) s.main.nodes
  pub near : All (λ (n : NodeView). IsNear n.status) s.main.nodes

-- A line of this loop's own: a child opens under the focus, or where the focus isn't open any more, and a solution has whole values.
-- It infers nothing, and raises no floor but by a child.
abbrev pub IsOwn : State → Line → Type 0
IsOwn s (line.Node id parent literal) = (parent ≡ s.main.focus) ⊎ ((focus_of s.main).status ≢ Open)
IsOwn s (line.Infer rule outcome) = ⊥
IsOwn s (line.Floor terms) = ⊥
IsOwn s (line.Sol denominator values) = denominator ≡ pos 1
IsOwn s _ = Unit {0}

-- the header stood, and no verdict yet
pub record IsRunning (s : State) : Type 0 where
  pub begun : IsSome s.version
  pub running : s.verdict ≡ None

-- the search goes on at an open focus
pub record IsAtOpen (s : State) : Type 0 where
  pub going : IsRunning s
  pub is_open : (focus_of s.main).status ≡ Open
