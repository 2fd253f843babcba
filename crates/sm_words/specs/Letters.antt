-- The bytes of words and numbers.
use Rattle.std.specs.Prelude.{ℕ, Bool, ◌==◌, ◌||◌}
use Rattle.std.specs.Int.{is_in_range}

-- the digits are the bytes from `0` to `9`
abbrev pub is_digit : ℕ → Bool
is_digit b = is_in_range 48 57 b

-- a word begins with a letter or `_`
abbrev pub is_letter : ℕ → Bool
is_letter b = is_in_range 65 90 b || (is_in_range 97 122 b || b == 95)

-- and goes on with letters, digits and `_`
abbrev pub is_in_word : ℕ → Bool
is_in_word b = is_letter b || is_digit b
