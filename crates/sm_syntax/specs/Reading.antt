-- What the parser's functions say of the reader.
use Rattle.std.specs.Prelude.{◌≡◌, ◌≤◌, ◌==◌, ◌&&◌, ℕ, Bool, not, List, [], ◌∷◌, ◌++◌, Some, Result, Ok, Err, length}
use Rattle.sm_syntax.specs.declared.failure.Failure.{Failure}
use Rattle.sm_syntax.specs.declared.failure.Failure.TheVariants as failure
use Rattle.sm_syntax.specs.declared.terminal.Terminal.{Terminal}
use Rattle.sm_syntax.specs.Terminals.{code_of, opens, closes}
use Rattle.sm_syntax.specs.Tokens.{Token}
use Rattle.sm_syntax.specs.Grammars.{Symbol, leaf, node, predict}
use Rattle.sm_syntax.specs.Grammar.{grammar, start, token_end}
use Rattle.sm_syntax.specs.declared.place.Place.{Place}
use Rattle.sm_syntax.specs.Parsing.{kind, Step, becomes, is_rule, placed, Builds, Halt, bad, too_deep, Run}

-- how many brackets are open, and the tokens that are still to come
pub record Standing : Type 0 where
  pub depth : ℕ
  pub first : Token
  pub later : List Token

abbrev pub left : Standing → List Token
left s = s.first ∷ s.later

-- the number of the terminal that comes next
abbrev pub next : Standing → ℕ
next s = kind s.first

-- the terminal comes next
abbrev pub is_next : Terminal → Standing → Bool
is_next t s = code_of t == next s

-- a terminal that is no bracket, no name, no number and not the end
abbrev pub is_plain : Terminal → Bool
is_plain t = not (opens (code_of t)) && (not (closes (code_of t)) && (not (code_of t == 0) && (not (code_of t == 1) && not (code_of t == 69))))

-- Where these symbols are to come in one state, the others are in the later state, whatever comes behind them; and a
-- tree of the others makes one of these, by the steps that stand before its own.
pub record Leads (from : Standing) (S : List Symbol) (steps : List Step → List Step) (to : Standing) (T : List Symbol) : Type 0 where
  pub order : length to.later ≤ length from.later
  pub run : (K : List Symbol) (o : Halt) → Run grammar (T ++ K) to.depth (left to) o → Run grammar (S ++ K) from.depth (left from) o
  pub builds : (K : List Symbol) (rest : List Step) → Builds grammar (T ++ K) (left to) rest → Builds grammar (S ++ K) (left from) (steps rest)

-- Where these symbols are to come, reading comes to this outcome.
pub record Stops (from : Standing) (S : List Symbol) (o : Halt) : Type 0 where
  pub run : (K : List Symbol) → Run grammar (S ++ K) from.depth (left from) o

-- the reader stands at the first bad token, or at a bracket that is too deep
abbrev pub Fault : Standing → List Symbol → Standing → Failure → Type 0
Fault from S to failure.Syntax = Stops from S (bad (left to))
Fault from S to failure.Nesting = Stops from S (too_deep (left to))
Fault from S to failure.OutOfMemory = Unit {0}

-- the symbols are read up to others, and the steps of the result list them; or the reader stands where they can't go on
abbrev pub ReadsTo : {X : Type 0} → Standing → List Symbol → (X → List Step → List Step) → Standing → List Symbol → Result X Failure → Type 0
ReadsTo from S steps to T (Ok x) = Leads from S (steps x) to T
ReadsTo from S steps to T (Err e) = Fault from S to e

-- the symbols are read whole
abbrev pub ReadsWhole : {X : Type 0} → Standing → List Symbol → (X → List Step → List Step) → Standing → Result X Failure → Type 0
ReadsWhole from S steps to (Ok x) = Leads from S (steps x) to []
ReadsWhole from S steps to (Err e) = Fault from S to e

-- the alternative that the next token chooses
abbrev pub Chooses : Standing → Symbol → List Symbol → Type 0
Chooses s (leaf a) rhs = ⊥
Chooses s (node A) rhs = predict grammar A (next s) ≡ Some rhs

-- a nonterminal becomes a right side at a place, and then the rest
abbrev pub alternative_then : ℕ → List Symbol → Place → List Step → List Step
alternative_then A rhs p rest = becomes (node A) rhs ∷ placed (is_rule A) p rest

-- each item of a list in turn
abbrev pub each : {X : Type 0} → (X → List Step → List Step) → List X → List Step → List Step
each f [] rest = rest
each f (x ∷ xs) rest = f x (each f xs rest)

-- what the grammar itself gives isn't listed
abbrev pub unlisted : {X : Type 0} → X → List Step → List Step
unlisted x rest = rest

-- a whole text is read, up to its end
abbrev pub ReadsAll : {X : Type 0} → Standing → (X → List Step → List Step) → Standing → Result X Failure → Type 0
ReadsAll from steps to (Ok x) = Leads from start (steps x) to (token_end ∷ []) × (next to ≡ 69) × (to.later ≡ [])
ReadsAll from steps to (Err e) = Fault from start to e
