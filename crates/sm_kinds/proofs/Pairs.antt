-- What holds of each two elements of a list, read at one default.
use Rattle.std.proofs.Common.{ℕ, ◌<◌, ◌↔◌, List, length, get_or, arith}
use Rattle.std.proofs.lemmas.List.{get_or_default}
use Rattle.std.specs.Prelude.{AllPairs}

module _ {X : Type 0} (R : X → X → Type 0) where
  pub pairs_at : (xs : List X) (e : X) → ((j k : ℕ) → j < k → k < length xs → R (get_or xs j e) (get_or xs k e)) ↔ AllPairs R xs
  pairs_at xs e = (
    (λ h j k d lt within. rw (get_or_default xs j d e (omega arith), get_or_default xs k d e within) (h j k lt within)),
    (λ h j k lt within. h j k e lt within),
  )
