-- What a shelf gives of a file, and what a sink takes of a piece.
use Rattle.std.specs.Prelude.{◌≡◌, ◌↔◌, ◌++◌, ℕ, ◌≤◌, ◌<◌, List, length, take, drop, Option, IfSome}
use Rattle.std.specs.Io.KnownBytes.{Appends}

-- n bytes of the file from this place were copied to the front of `into`; where `into` has room, none exactly at or past the end
pub record Copies (file : List ℕ) (place n : ℕ) (into : List ℕ) : Type 0 where
  pub copied : take n into ≡ take n (drop place file)
  pub ends : 0 < length into → (n ≡ 0) ↔ (length file ≤ place)

-- the same of a file that the shelf may not tell
abbrev pub CopiesKnown : Option (List ℕ) → ℕ → ℕ → List ℕ → Type 0
CopiesKnown held place n into = IfSome held (λ file. Copies file place n into)

-- some front of the piece was appended
abbrev pub AppendsFront : Option (List ℕ) → Option (List ℕ) → List ℕ → Type 0
AppendsFront old new piece = (n : ℕ) × (n ≤ length piece) × Appends old new (take n piece)

-- the next n bytes of the file were added to the old ones, and none only at its end
pub record Continues (file old : List ℕ) (n : ℕ) (new : List ℕ) : Type 0 where
  pub added : new ≡ old ++ take n (drop (length old) file)
  pub ends : n ≡ 0 → length file ≤ length old
