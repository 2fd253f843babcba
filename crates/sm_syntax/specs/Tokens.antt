-- How a text is cut into tokens.
use Rattle.std.specs.Prelude.{ℕ, zero, suc, ◌+◌, ◌-◌, ◌*◌, ◌==◌, ◌&&◌, ◌||◌, Bool, false, not, List, [], ◌∷◌, Option, Some, None, codes, fold, length, nat_le, take, if◌then◌else◌}
use Rattle.std.specs.List.{prefix_len}
use Rattle.std.specs.Str.{bytes_eq}
use Rattle.sm_words.specs.Letters.{is_digit, is_in_word, is_letter}
use Rattle.sm_words.specs.Names.{longest_name}
use Rattle.sm_syntax.specs.declared.place.Place.{Place}
use Rattle.sm_syntax.specs.declared.terminal.Terminal.{Terminal}
use Rattle.sm_syntax.specs.declared.terminal.Terminal.TheVariants as terminal
use Rattle.sm_syntax.specs.declared.terminal.Piece.{Piece}
use Rattle.sm_syntax.specs.declared.terminal.Piece.TheVariants.{Blank, Comment, Word, Digits, Sign}
use Rattle.sm_syntax.specs.Places.{along, next_line, start_place}
use Rattle.sm_syntax.specs.Words.{reserved_word}

-- a token: what it is to the grammar, its bytes, what its digits write if it is a number, and where it begins
pub record Token : Type 0 where
  pub terminal : Terminal
  pub word : List ℕ
  pub value : ℕ
  pub place : Place

-- ---- bytes

-- space, tab, carriage return and line feed stand between tokens
abbrev pub is_blank : ℕ → Bool
is_blank b = b == 32 || (b == 9 || (b == 13 || b == 10))

-- a comment goes on to the end of its line
abbrev pub is_in_line : ℕ → Bool
is_in_line b = not (b == 10)

-- ---- pieces

-- what a byte begins; 35 is `#`
abbrev pub piece_of : ℕ → Piece
piece_of b = if is_blank b then Blank else (if b == 35 then Comment else (if is_letter b then Word else (if is_digit b then Digits else Sign)))

-- the two bytes are a sign: `..`, `<=`, `>=` or `!=`
abbrev pub is_long_sign : ℕ → List ℕ → Bool
is_long_sign b [] = false
is_long_sign b (d ∷ ds) = (b == 46 && d == 46) || (d == 61 && (b == 60 || (b == 62 || b == 33)))

-- how many of the bytes behind the first belong to its piece
abbrev pub length_behind : Piece → ℕ → List ℕ → ℕ
length_behind Blank b bs = 0
length_behind Comment b bs = prefix_len is_in_line bs
length_behind Word b bs = prefix_len is_in_word bs
length_behind Digits b bs = prefix_len is_digit bs
length_behind Sign b bs = if is_long_sign b bs then 1 else 0

-- the place behind a piece of so many bytes; a line feed is a piece of its own
abbrev pub place_behind : Place → ℕ → ℕ → Place
place_behind p b bytes = if b == 10 then next_line p else along p bytes

-- ---- tokens

-- a word that isn't reserved is a name, if it isn't too long for one
abbrev pub name_or_bad : Option Terminal → List ℕ → Terminal
name_or_bad (Some t) word = t
name_or_bad None word = if nat_le (length word) longest_name then terminal.Name else terminal.Bad

abbrev pub word_terminal : List ℕ → Terminal
word_terminal word = name_or_bad (reserved_word word) word

-- a number has at most 18 digits
abbrev pub digits_terminal : List ℕ → Terminal
digits_terminal digits = if nat_le (length digits) 18 then terminal.Number else terminal.Bad

-- what the digits write
abbrev pub number_of : List ℕ → ℕ
number_of digits = fold (λ n d. 10 * n + (d - 48)) 0 digits

-- the terminal of a sign
abbrev pub sign_terminal : List ℕ → Terminal
sign_terminal sign =
    if bytes_eq sign (codes ";") then terminal.Semicolon
    else (if bytes_eq sign (codes ",") then terminal.Comma
    else (if bytes_eq sign (codes ":") then terminal.Colon
    else (if bytes_eq sign (codes "..") then terminal.To
    else (if bytes_eq sign (codes "<") then terminal.Less
    else (if bytes_eq sign (codes "<=") then terminal.AtMost
    else (if bytes_eq sign (codes ">") then terminal.Greater
    else (if bytes_eq sign (codes ">=") then terminal.AtLeast
    else (if bytes_eq sign (codes "=") then terminal.Equal
    else (if bytes_eq sign (codes "!=") then terminal.Unequal
    else (if bytes_eq sign (codes "+") then terminal.Plus
    else (if bytes_eq sign (codes "-") then terminal.Minus
    else (if bytes_eq sign (codes "*") then terminal.Times
    else (if bytes_eq sign (codes "(") then terminal.OpenRound
    else (if bytes_eq sign (codes ")") then terminal.CloseRound
    else (if bytes_eq sign (codes "[") then terminal.OpenSquare
    else (if bytes_eq sign (codes "]") then terminal.CloseSquare
    else (if bytes_eq sign (codes "{") then terminal.OpenBrace
    else (if bytes_eq sign (codes "}") then terminal.CloseBrace
    else terminal.Bad))))))))))))))))))

-- the terminal that a piece is, and none for a blank or a comment
abbrev pub terminal_of : Piece → List ℕ → Option Terminal
terminal_of Blank bytes = None
terminal_of Comment bytes = None
terminal_of Word bytes = Some (word_terminal bytes)
terminal_of Digits bytes = Some (digits_terminal bytes)
terminal_of Sign bytes = Some (sign_terminal bytes)

-- what a token is worth
abbrev pub value_of : Terminal → List ℕ → ℕ
value_of terminal.Number bytes = number_of bytes
value_of _ bytes = 0

-- the token of a piece, if it is one, before the rest
abbrev pub before : Option Terminal → List ℕ → Place → List Token → List Token
before None bytes p ts = ts
before (Some t) bytes p ts = record { terminal = t; word = bytes; value = value_of t bytes; place = p } ∷ ts

-- the end of a text is a token just behind its last byte
abbrev pub end_token : Place → Token
end_token p = record { terminal = terminal.End; word = []; value = 0; place = p }

-- the tokens behind so many bytes of a text that goes on at a place: a piece at a time
abbrev pub tokens_behind : ℕ → List ℕ → Place → List Token
tokens_behind k [] p = end_token p ∷ []
tokens_behind (suc k) (b ∷ bs) p = tokens_behind k bs p
tokens_behind zero (b ∷ bs) p =
    let n = length_behind (piece_of b) b bs in
    before (terminal_of (piece_of b) (b ∷ take n bs)) (b ∷ take n bs) p (tokens_behind n bs (place_behind p b (n + 1)))

-- the tokens of a text that begins at a place
abbrev pub tokens_from : List ℕ → Place → List Token
tokens_from text p = tokens_behind 0 text p

-- the tokens of a whole text
abbrev pub tokens : List ℕ → List Token
tokens text = tokens_from text start_place
