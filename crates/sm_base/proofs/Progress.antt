-- How far a transfer has come.
use Rattle.std.proofs.Common.{◌≡◌, ℕ, ◌+◌, ◌≤◌, List, length, take, drop, Option, IfSome}
use Rattle.std.proofs.Math.Seq.{take-add}
use Rattle.std.specs.Io.KnownBytes.{Appends}
use Rattle.std.proofs.KnownBytes.{Appends-trans}

-- the first `at` bytes of the piece were put, and the count of faults has not fallen
pub record IsPutTo (old new : Option (List ℕ)) (piece : List ℕ) (at before now : ℕ) : Type 0 where
  pub within : at ≤ length piece
  pub appended : Appends old new (take at piece)
  pub later : before ≤ now

-- a front of the piece and then a front of the rest are a longer front
pub appends_more : (a b c : Option (List ℕ)) (piece : List ℕ) (at n : ℕ) → Appends a b (take at piece) → Appends b c (take n (drop at piece)) → Appends a c (take (at + n) piece)
appends_more a b c piece at n first second = rw (take-add at n piece) (Appends-trans a b c _ _ first second)

-- the bytes are the front of the file, no more than one past the bound
pub record IsReadTo (before_held now_held : List ℕ → Option (List ℕ)) (name bytes : List ℕ) (bound before now : ℕ) : Type 0 where
  pub front : IfSome (before_held name) (λ file. take (length bytes) file ≡ bytes)
  pub within : length bytes ≤ bound + 1
  pub same : (q : List ℕ) → now_held q ≡ before_held q
  pub later : before ≤ now
