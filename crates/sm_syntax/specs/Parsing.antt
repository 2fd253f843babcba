-- What a grammar makes of tokens: the tree, listed from the left, the first bad token, and the first bracket that is
-- opened too deep.
use Rattle.std.specs.Prelude.{◌≡◌, ◌≢◌, ◌+◌, ◌-◌, ◌&&◌, ℕ, Bool, true, false, List, [], ◌∷◌, ◌++◌, Some, map, nat_le, nat_lt, if◌then◌else◌}
use Rattle.sm_syntax.specs.declared.place.Place.{Place}
use Rattle.sm_syntax.specs.declared.terminal.Terminal.{Terminal}
use Rattle.sm_syntax.specs.declared.terminal.Terminal.TheVariants as terminal
use Rattle.sm_syntax.specs.Places.{start_place}
use Rattle.sm_syntax.specs.Terminals.{code_of, opens, closes}
use Rattle.sm_syntax.specs.Tokens.{Token}
use Rattle.sm_syntax.specs.Grammars.{Symbol, leaf, node, Grammar, IsAlternative, Derives, predict}

-- the number of a token's terminal
abbrev pub kind : Token → ℕ
kind t = code_of t.terminal

abbrev pub kinds : List Token → List ℕ
kinds ts = map kind ts

-- the place of the first token
abbrev pub place_of : List Token → Place
place_of [] = start_place
place_of (t ∷ ts) = t.place

-- ---- trees

-- A tree is listed from the left: each nonterminal with the alternative that it becomes and, if it is a rule of the
-- language, the place of its first token; and each name and number.
pub data Step : Type 0 where
  becomes : Symbol → List Symbol → Step
  stands_at : Place → Step
  a_name : List ℕ → Place → Step
  a_number : ℕ → Place → Step

-- the first 24 nonterminals are the rules of the language
abbrev pub is_rule : ℕ → Bool
is_rule A = nat_lt A 24

abbrev pub placed : Bool → Place → List Step → List Step
placed true p steps = stands_at p ∷ steps
placed false p steps = steps

-- a nonterminal at these tokens becomes the right side
abbrev pub entered : ℕ → List Symbol → List Token → List Step → List Step
entered A rhs ts steps = becomes (node A) rhs ∷ placed (is_rule A) (place_of ts) steps

-- a name or a number is listed, and no other token is
abbrev pub noted_as : Terminal → Token → List Step → List Step
noted_as terminal.Name t steps = a_name t.word t.place ∷ steps
noted_as terminal.Number t steps = a_number t.value t.place ∷ steps
noted_as _ t steps = steps

abbrev pub noted : Token → List Step → List Step
noted t steps = noted_as t.terminal t steps

-- the steps list a tree of these symbols whose tokens are these
pub data Builds (g : Grammar) : List Symbol → List Token → List Step → Type 0 where
  nothing : Builds g [] [] []
  reads : (a : ℕ) (t : Token) (ss : List Symbol) (ts : List Token) (steps all : List Step) → a ≡ kind t → all ≡ noted t steps
      → Builds g ss ts steps → Builds g (leaf a ∷ ss) (t ∷ ts) all
  uses : (A : ℕ) (rhs ss : List Symbol) (ts : List Token) (steps all : List Step) → IsAlternative (g.alternatives A) rhs → all ≡ entered A rhs ts steps
      → Builds g (rhs ++ ss) ts steps → Builds g (node A ∷ ss) ts all

-- ---- the first bad token

-- What stands before this token begins some word of the grammar, and with the token no word does.
pub record FirstBad (g : Grammar) (ss : List Symbol) (text : List Token) (wrong : Token) : Type 0 where
  pub before : List Token
  pub later : List Token
  pub split : text ≡ before ++ wrong ∷ later
  pub more : List ℕ
  pub good : Derives g ss (kinds before ++ more)
  pub never : (w : List ℕ) → Derives g ss (kinds before ++ kind wrong ∷ w) → ⊥

-- ---- brackets

-- how many brackets are open behind a token
abbrev pub depth_after : ℕ → ℕ → ℕ
depth_after d c = if opens c then d + 1 else (if closes c then d - 1 else d)

abbrev pub depth_behind : ℕ → List Token → ℕ
depth_behind d [] = d
depth_behind d (t ∷ ts) = depth_behind (depth_after d (kind t)) ts

-- a bracket is opened inside 64 open ones
abbrev pub is_too_deep : ℕ → ℕ → Bool
is_too_deep d c = opens c && nat_le 64 d

-- This bracket is opened inside 64 open ones, and some word of the grammar begins with the tokens up to it.
pub record TooDeep (g : Grammar) (ss : List Symbol) (d : ℕ) (text : List Token) (bracket : Token) : Type 0 where
  pub before : List Token
  pub later : List Token
  pub split : text ≡ before ++ bracket ∷ later
  pub deep : is_too_deep (depth_behind d before) (kind bracket) ≡ true
  pub more : List ℕ
  pub good : Derives g ss (kinds before ++ kind bracket ∷ more)

-- ---- reading from the left

-- the tokens were read to their end; or the rest begins with a bad token, or with a bracket that is too deep
pub data Halt : Type 0 where
  accepted : Halt
  bad : List Token → Halt
  too_deep : List Token → Halt

-- what reading tokens from the left comes to, with the symbols that are to come and the number of open brackets
pub data Run (g : Grammar) : List Symbol → ℕ → List Token → Halt → Type 0 where
  whole : (d : ℕ) → Run g [] d [] accepted
  more : (d : ℕ) (t : Token) (ts : List Token) → Run g [] d (t ∷ ts) (bad (t ∷ ts))
  eats : (a : ℕ) (ss : List Symbol) (d : ℕ) (t : Token) (ts : List Token) (o : Halt) → a ≡ kind t → is_too_deep d (kind t) ≡ false
      → Run g ss (depth_after d (kind t)) ts o → Run g (leaf a ∷ ss) d (t ∷ ts) o
  stops : (a : ℕ) (ss : List Symbol) (d : ℕ) (t : Token) (ts : List Token) → a ≡ kind t → is_too_deep d (kind t) ≡ true
      → Run g (leaf a ∷ ss) d (t ∷ ts) (too_deep (t ∷ ts))
  other : (a : ℕ) (ss : List Symbol) (d : ℕ) (t : Token) (ts : List Token) → a ≢ kind t → Run g (leaf a ∷ ss) d (t ∷ ts) (bad (t ∷ ts))
  takes : (A : ℕ) (rhs ss : List Symbol) (d : ℕ) (t : Token) (ts : List Token) (o : Halt) → predict g A (kind t) ≡ Some rhs
      → Run g (rhs ++ ss) d (t ∷ ts) o → Run g (node A ∷ ss) d (t ∷ ts) o
