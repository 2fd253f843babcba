-- What each allowed line keeps, for every set of constraints that has those that the lines name.
use Rattle.std.specs.Prelude.{◌≡◌, ℕ, Bool, true, List, [], ◌∷◌, length, pos, ◌<ℤ◌, Option, Some, None, IfSome, All}
use Rattle.sm_flat.specs.Models.{FlatModel}
use Rattle.sm_kinds.specs.Points.{Point}
use Rattle.sm_flat.specs.Assignments.{point_of}
use Rattle.sm_flat.specs.Assignments.{Numbers, IsAssignment}
use Rattle.sm_flat.specs.Goals.{IsBetter}
use Rattle.sm_flat.specs.Solutions.{Solves, SolvesOn}
use Rattle.sm_flat.specs.Limits.{IsFlat}
use Rattle.sm_store.specs.Stores.{IsStoreOf}
use Rattle.sm_step.specs.declared.line.Line.{Line}
use Rattle.sm_step.specs.declared.line.Line.TheVariants as line
use Rattle.sm_rows.specs.Inferences.{constraint_of}
use Rattle.sm_rules.specs.Nodes.{NodeView}
use Rattle.sm_rules.specs.Trees.{TreeSound, IsNumbered, pruned}
use Rattle.sm_rules.specs.Cuts.{SatisfiesLemma, SatisfiesCut}
use Rattle.sm_rules.specs.States.{State}

-- a solution on the constraints whose numbers pass the test s that is better than the best, if there is one
pub record Live (m : FlatModel) (s : ℕ → Bool) (best : Option Numbers) (a : Point) : Type 0 where
  pub solves : SolvesOn m s a
  pub better : IfSome best (λ b. IsBetter m a (point_of b))

pub record Sound (m : FlatModel) (s : ℕ → Bool) (state : State) : Type 0 where
  pub best : IfSome state.best (λ b. Solves m (point_of b))
  pub tree : TreeSound m (Live m s state.best) state.main.nodes
  pub lemmas : (a : Point) → Live m s state.best a → All (SatisfiesLemma a) state.lemmas
  pub cuts : (a : Point) → SolvesOn m s a → All (SatisfiesCut a) state.cuts

-- the constraints that a line names
abbrev pub named : Line → List ℕ
named (line.Infer r outcome) = constraint_of r ∷ []
named (line.Violated k) = k ∷ []
named _ = []

-- the test passes the constraints that these lines name
abbrev pub NamesWithin : (ℕ → Bool) → List Line → Type 0
NamesWithin s lines = All (λ l. All (λ k. s k ≡ true) (named l)) lines

-- the node's store is of the model, and it has one floor a goal
pub record IsNodeOf (m : FlatModel) (n : NodeView) : Type 0 where
  pub store : IsStoreOf m n.store
  pub floors : length n.floors ≡ length m.goals
  pub positive : All (λ p. pos 0 <ℤ p.1) n.floors

-- a solution has one value a variable
pub record IsBestOf (m : FlatModel) (b : Numbers) : Type 0 where
  pub fit : IsAssignment b.denominator b.values
  pub each : length b.values ≡ length m.vars

-- the state is of the model, and nothing refuted is left in it
pub record IsOf (m : FlatModel) (state : State) : Type 0 where
  pub flat : IsFlat m
  pub nodes : All (λ (n : NodeView). IsNodeOf m n) state.main.nodes
  pub numbered : IsNumbered state.main
  pub kept : pruned state.main.nodes ≡ state.main.nodes
  pub best : IfSome state.best (IsBestOf m)

-- what a refuted tree shows on the constraints of the test s alone: no assignment that satisfies these is better than the best, or none does
abbrev pub IsTrueOn : FlatModel → (ℕ → Bool) → Option Numbers → Type 0
IsTrueOn m s None = (a : Point) → SolvesOn m s a → ⊥
IsTrueOn m s (Some b) = (a : Point) → SolvesOn m s a → IsBetter m a (point_of b) → ⊥
