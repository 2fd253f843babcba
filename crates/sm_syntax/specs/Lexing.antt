-- What the cutting of a text says of its tokens.
use Rattle.std.specs.Prelude.{◌==◌, Bool, List, [], ◌∷◌, Option, Some, None, if◌then◌else◌}
use Rattle.sm_syntax.specs.declared.token.Token.{Token as Lent}
use Rattle.sm_syntax.specs.Terminals.{code_of}
use Rattle.sm_syntax.specs.Tokens.{Token}

-- a token whose bytes the text lends
abbrev pub seen : Lent → Token
seen t = record { terminal = t.terminal; word = t.word.now; value = t.value; place = t.place }

-- the token is the end of the text
abbrev pub is_end : Token → Bool
is_end t = code_of t.terminal == 69

-- nothing stands behind the end
abbrev pub behind : Token → List Token → List Token
behind t ts = if is_end t then [] else ts

abbrev pub with_token : Option Token → List Token → List Token
with_token None ts = ts
with_token (Some t) ts = t ∷ ts
