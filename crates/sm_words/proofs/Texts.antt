-- Names are ASCII.
use Rattle.std.proofs.Common.{◌≡◌, arith, ℕ, true, ◌&&◌, not, nat_le, List, [], ◌∷◌, ◌<◌, length}
use Rattle.std.specs.List.{list_all}
use Rattle.std.specs.Str.{IsAscii, IsUtf8}
use Rattle.std.proofs.lemmas.Bool.{and_parts}
use Rattle.std.proofs.lemmas.Str.{IsUtf8-from_ascii}
use Rattle.std.proofs.lemmas.Str.Ascii.{IsAscii-nil, IsAscii-cons}
use Rattle.sm_words.specs.Letters.{is_in_word, is_letter}
use Rattle.sm_words.specs.Names.{is_reserved, is_word, is_name, longest_name}

letter_below : (b : ℕ) → is_letter b ≡ true → b < 128
letter_below b h = grind arith

part_below : (b : ℕ) → is_in_word b ≡ true → b < 128
part_below b h = grind arith

parts_ascii : (bs : List ℕ) → list_all is_in_word bs ≡ true → IsAscii bs
parts_ascii [] h = IsAscii-nil
parts_ascii (b ∷ bs) h = let parts = and_parts (is_in_word b) (list_all is_in_word bs) h in IsAscii-cons b bs (part_below b parts.0) (parts_ascii bs parts.1)

word_ascii : (bs : List ℕ) → is_word bs ≡ true → IsAscii bs
word_ascii [] h = IsAscii-nil
word_ascii (b ∷ bs) h = let parts = and_parts (is_letter b) (list_all is_in_word bs) h in IsAscii-cons b bs (letter_below b parts.0) (parts_ascii bs parts.1)

pub name_utf8 : (bs : List ℕ) → is_name bs ≡ true → IsUtf8 bs
name_utf8 bs h =
    let short = and_parts (is_word bs && nat_le (length bs) longest_name) (not (is_reserved bs)) h in
    IsUtf8-from_ascii bs (word_ascii bs (and_parts (is_word bs) (nat_le (length bs) longest_name) short.0).0)
