-- Words that a bitwise operation has been done on as far as one place.
use Rattle.std.proofs.Common.{◌≡◌, ℕ, ◌<◌, ◌≤◌, List, length, get_or}

pub record Combined (f : ℕ → ℕ → ℕ) (old other new : List ℕ) (len at : ℕ) : Type 0 where
  pub low : at ≤ len
  pub long : len ≡ length old
  pub done : (k : ℕ) → k < at → get_or new k 0 ≡ f (get_or old k 0) (get_or other k 0)
  pub rest : (k : ℕ) → at ≤ k → get_or new k 0 ≡ get_or old k 0
