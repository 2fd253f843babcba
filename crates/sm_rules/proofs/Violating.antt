-- What the tests of a constraint say of it.
use Rattle.std.proofs.Common.{◌≡◌, ℕ, ◌<◌, zero, suc, Bool, true, false, Some, List, [], ◌∷◌, length, refl, arith}
use Rattle.std.specs.Prelude.{not, slice_get}

pub some_at : {X : Type 0} (xs : List X) (k : ℕ) → k < length xs → (x : X) × (slice_get xs k ≡ Some x)
some_at [] k lt = absurd (omega arith)
some_at (x ∷ xs) zero lt = (x, refl)
some_at (x ∷ xs) (suc k) lt = some_at xs k (omega arith)

pub not_from : (b : Bool) → (b ≡ true → ⊥) → not b ≡ true
not_from true h = absurd (h refl)
not_from false h = refl

pub not_both : (b : Bool) → not b ≡ true → b ≡ true → ⊥
not_both true t h = absurd (cc)
not_both false t h = absurd (cc)
