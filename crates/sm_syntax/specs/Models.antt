-- What the reader says of a text.
use Rattle.std.specs.Prelude.{◌≡◌, ℕ, List, []}
use Rattle.sm_syntax.specs.Tokens.{Token, tokens}
use Rattle.sm_syntax.specs.Grammars.{Derives}
use Rattle.sm_syntax.specs.Grammar.{grammar, start}
use Rattle.sm_syntax.specs.Parsing.{Builds, FirstBad, TooDeep, kinds}
use Rattle.sm_syntax.specs.Trees.{Tree}
use Rattle.sm_syntax.specs.TreeSteps.{tree_then}
use Rattle.sm_syntax.specs.declared.place.Place.{Place}
use Rattle.sm_syntax.specs.declared.failure.Failure.{Failure}
use Rattle.sm_syntax.specs.declared.failure.Failure.TheVariants as failure
use Rattle.sm_syntax.specs.declared.ParseRefusal.{ParseRefusal}
use Rattle.sm_syntax.specs.declared.ParseRefusal.TheVariants as refusal

abbrev pub Bytes : Type 0
Bytes = List ℕ

-- the text is a model: its tokens, with the end, are a word of the grammar
abbrev pub IsModel : List ℕ → Type 0
IsModel text = Derives grammar start (kinds (tokens text))

-- the grammar gives the text this tree
abbrev pub IsTreeOf : List ℕ → Tree → Type 0
IsTreeOf text whole = Builds grammar start (tokens text) (tree_then whole [])

-- at this place stands the first token after which the grammar has no continuation
abbrev pub IsFirstBad : List ℕ → Place → Type 0
IsFirstBad text place = (wrong : Token) × FirstBad grammar start (tokens text) wrong × (wrong.place ≡ place)

-- a bracket is opened inside 64 open ones, and the grammar has a continuation after it
abbrev pub IsTooDeep : List ℕ → Type 0
IsTooDeep text = (bracket : Token) × TooDeep grammar start 0 (tokens text) bracket

-- why there is no tree, where the reader stops at a place
abbrev pub refusal_at : Failure → Place → ParseRefusal
refusal_at failure.Syntax p = refusal.Syntax p.line p.column
refusal_at failure.Nesting p = refusal.Nesting 65
refusal_at failure.OutOfMemory p = refusal.OutOfMemory
