-- How a log is read: what was taken as whole lines, and what was fetched behind it.
use Rattle.std.specs.Prelude.{◌≡◌, ◌++◌, ◌+◌, ◌≤◌, ◌<◌, ◌^◌, ◌⊎◌, ℕ, List, [], ◌∷◌, length, take, drop, codes, All, Option, None, IfSome}
use Rattle.sm_step.specs.Reading.{rest_behind}

-- what was fetched and isn't taken yet, and how many bytes were fetched in all
pub record Fed : Type 0 where
  pub left : List ℕ
  pub place : ℕ

-- n more bytes of the file were fetched, and none only at its end
pub record Fetches (held : Option (List ℕ)) (old new : Fed) (n : ℕ) : Type 0 where
  pub more : List ℕ
  pub left : new.left ≡ old.left ++ more
  pub count : length more ≡ n
  pub place : new.place ≡ old.place + n
  pub told : IfSome held (λ file. more ≡ take n (drop old.place file))
  pub ends : IfSome held (λ file. n ≡ 0 → length file ≤ old.place)

-- no line ends in these bytes
abbrev pub HasNoEnd : List ℕ → Type 0
HasNoEnd bytes = All (λ b. b ≡ 10 → ⊥) bytes

-- the bytes end a line, and no line before
pub record IsPiece (piece : List ℕ) : Type 0 where
  pub body : List ℕ
  pub single : HasNoEnd body
  pub is : piece ≡ body ++ 10 ∷ []

-- more bytes than a line may have that isn't a `norange` line, and they don't begin as such a line does
abbrev pub IsTooLong : List ℕ → Type 0
IsTooLong bytes = (2 ^ 24 < length bytes) × (rest_behind (codes "norange ") bytes ≡ None)

-- the first n bytes are a whole line; or they are all that is left, no line ends in them, and the file is at its end or they
-- are already too many for one line
abbrev pub IsFront : Option (List ℕ) → Fed → ℕ → Type 0
IsFront held fed n = IsPiece (take n fed.left) ⊎ ((n ≡ length fed.left) × HasNoEnd fed.left × (IfSome held (λ file. length file ≤ fed.place) ⊎ IsTooLong fed.left))

-- some bytes more were fetched
pub record Gathers (held : Option (List ℕ)) (old new : Fed) : Type 0 where
  pub more : List ℕ
  pub left : new.left ≡ old.left ++ more
  pub place : new.place ≡ old.place + length more
  pub told : IfSome held (λ file. more ≡ take (length more) (drop old.place file))

-- some bytes more were fetched, so that a whole line of n bytes stands at the front, or all n bytes that are left have no line end
pub record Readies (held : Option (List ℕ)) (old new : Fed) (n : ℕ) : Type 0 where
  pub gathers : Gathers held old new
  pub within : n ≤ length new.left
  pub front : IsFront held new n
