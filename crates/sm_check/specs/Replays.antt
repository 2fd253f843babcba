-- The replay of the bytes of a log: to a verdict, or to the first line that isn't allowed.
use Rattle.std.specs.Prelude.{◌≡◌, ◌++◌, ◌+◌, ◌==◌, ℕ, List, [], ◌∷◌, length, map, All, Some, None, if◌then◌else◌}
use Rattle.sm_flat.specs.Models.{FlatModel}
use Rattle.sm_step.specs.declared.line.Line.{Line}
use Rattle.sm_step.specs.declared.verdict.Verdict.{Verdict}
use Rattle.sm_step.specs.Text.{text_of}
use Rattle.sm_step.specs.Grammar.{IsLine}
use Rattle.sm_rules.specs.declared.cause.Cause.{Cause}
use Rattle.sm_rules.specs.declared.cause.Cause.TheVariants.{Grammar, End}
use Rattle.sm_rules.specs.States.{State}
use Rattle.sm_rules.specs.Transitions.{start, Replays, IsRefusedFor}

-- a byte before the first of these pieces
abbrev pub joined : ℕ → List (List ℕ) → List (List ℕ)
joined b [] = (b ∷ []) ∷ []
joined b (p ∷ ps) = (b ∷ p) ∷ ps

-- the bytes, cut after each line end
abbrev pub cut : List ℕ → List (List ℕ)
cut [] = []
cut (b ∷ bs) = if b == 10 then (b ∷ []) ∷ cut bs else joined b (cut bs)

-- these lines of the grammar, one a piece, are each allowed in its turn, and come to this state
pub record ReplaysTo (m : FlatModel) (pieces : List (List ℕ)) (lines : List Line) (state : State) : Type 0 where
  pub each : All IsLine lines
  pub text : pieces ≡ map text_of lines
  pub runs : Replays m (start m) lines state

-- the bytes are a log that ends in this verdict
pub record EndsIn (m : FlatModel) (log : List ℕ) (v : Verdict) : Type 0 where
  pub lines : List Line
  pub state : State
  pub replays : ReplaysTo m (cut log) lines state
  pub verdict : state.verdict ≡ Some v

-- the piece isn't an allowed line in this state, for this cause
abbrev pub IsRefusedPiece : FlatModel → State → List ℕ → Cause → Type 0
IsRefusedPiece m s piece Grammar = (l : Line) → IsLine l → piece ≡ text_of l → ⊥
IsRefusedPiece m s piece c = (l : Line) × IsLine l × (piece ≡ text_of l) × IsRefusedFor m s l c

-- the next of the pieces isn't an allowed line; or there is none, and no verdict stands
abbrev pub FailsNext : FlatModel → State → List (List ℕ) → Cause → Type 0
FailsNext m s [] c = (c ≡ End) × (s.verdict ≡ None)
FailsNext m s (piece ∷ pieces) c = IsRefusedPiece m s piece c

-- line k of the bytes, from 1, is the first that isn't allowed, for this cause
pub record FailsAt (m : FlatModel) (log : List ℕ) (k : ℕ) (c : Cause) : Type 0 where
  pub lines : List Line
  pub state : State
  pub before : List (List ℕ)
  pub rest : List (List ℕ)
  pub pieces : cut log ≡ before ++ rest
  pub replays : ReplaysTo m before lines state
  pub number : k ≡ length lines + 1
  pub fails : FailsNext m state rest c
