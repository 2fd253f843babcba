-- Numbers by place, and the places from `from` up to and without `to`.
use Rattle.std.specs.Prelude.{◌≡◌, ℕ, ℤ, pos, ◌<◌, ◌≤◌, ◌+ℤ◌, ◌<ℤ◌, ◌≤ℤ◌, ◌⊎◌, FitsSigned, List, length, slice_index_or}
use Rattle.std.specs.Int.{w64}

-- the number at a place, and 0 past the last
abbrev pub number_at : List ℤ → ℕ → ℤ
number_at numbers k = slice_index_or numbers k (pos 0)

-- each number at those places can take the amount within 64 bits
abbrev pub SumsFit : List ℤ → ℕ → ℕ → ℤ → Type 0
SumsFit numbers from to amount = (k : ℕ) → from ≤ k → k < to → FitsSigned w64 (number_at numbers k +ℤ amount)

-- each number at those places has grown by the amount
abbrev pub AddsOver : List ℤ → List ℤ → ℕ → ℕ → ℤ → Type 0
AddsOver old new from to amount = (k : ℕ) → from ≤ k → k < to → number_at new k ≡ number_at old k +ℤ amount

-- the numbers before a place are the same
abbrev pub SameBelow : List ℤ → List ℤ → ℕ → Type 0
SameBelow old new at = (k : ℕ) → k < at → number_at new k ≡ number_at old k

-- the numbers from a place on are the same
abbrev pub SameFrom : List ℤ → List ℤ → ℕ → Type 0
SameFrom old new at = (k : ℕ) → at ≤ k → number_at new k ≡ number_at old k

-- m is the number at one of those places
pub record IsAmong (numbers : List ℤ) (from to : ℕ) (m : ℤ) : Type 0 where
  pub place : ℕ
  pub low : from ≤ place
  pub high : place < to
  pub same : number_at numbers place ≡ m

-- no number at those places is above m
abbrev pub IsAtMost : List ℤ → ℕ → ℕ → ℤ → Type 0
IsAtMost numbers from to m = (k : ℕ) → from ≤ k → k < to → number_at numbers k ≤ℤ m

-- p is the least place at or after `from` whose number is above the bound
pub record IsFirstAbove (numbers : List ℤ) (from : ℕ) (bound : ℤ) (p : ℕ) : Type 0 where
  pub low : from ≤ p
  pub inside : p < length numbers
  pub above : bound <ℤ number_at numbers p
  pub least : IsAtMost numbers from p bound

-- m is the greater of a and b
pub record IsGreater (a b m : ℤ) : Type 0 where
  pub first : a ≤ℤ m
  pub second : b ≤ℤ m
  pub reached : (m ≡ a) ⊎ (m ≡ b)
