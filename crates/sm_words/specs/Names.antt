-- Which words are reserved, and which are names.
use Rattle.std.specs.Prelude.{codes, ◌&&◌, ◌==◌, ℕ, Bool, false, not, List, [], ◌∷◌, length, nat_le}
use Rattle.std.specs.List.{list_all, list_any, slice_split}
use Rattle.std.specs.Str.{bytes_eq}
use Rattle.sm_words.specs.Letters.{is_in_word, is_letter}

-- the words that are parted by spaces
abbrev pub words_of : List ℕ → List (List ℕ)
words_of line = slice_split (λ b. b == 32) line

-- the reserved words
unfoldable pub reserved_words : List (List ℕ)
reserved_words = words_of (codes "index var post forall set int real satisfy minimise maximise if and in for sum logic when then alldiff circuit element indexsum assign cumulative disjunctive packing implies iff or not all any infer relax branch pick split sub none bounds full on first small point half least most")

abbrev pub is_reserved : List ℕ → Bool
is_reserved word = list_any (bytes_eq word) reserved_words

-- a letter or `_`, then letters, digits and `_`
abbrev pub is_word : List ℕ → Bool
is_word [] = false
is_word (b ∷ bs) = is_letter b && list_all is_in_word bs

-- the most bytes of a name
abbrev pub longest_name : ℕ
longest_name = 64

-- a word that is no longer and isn't reserved
abbrev pub is_name : List ℕ → Bool
is_name bs = is_word bs && nat_le (length bs) longest_name && not (is_reserved bs)
