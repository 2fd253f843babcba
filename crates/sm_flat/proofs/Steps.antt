-- Steps of the loops over numbers and values.
use Rattle.std.proofs.Common.{◌≡◌, ℕ, None, List, length, get_or, inl, inr}
use Rattle.std.proofs.lemmas.Bool.{cases_lt}
use Rattle.std.proofs.lemmas.Option.{slice_get-get_or}
use Rattle.std.specs.Prelude.{ℤ, slice_get}
use Rattle.std.proofs.lemmas.List.{get_or_past}

-- past the end stands the default
pub get_or_none : (xs : List ℤ) (i : ℕ) (d : ℤ) → slice_get xs i ≡ None → get_or xs i d ≡ d
get_or_none xs i d e = elim (cases_lt i (length xs)) [
  | inl lt ↦ let some = slice_get-get_or xs i d lt in absurd (cc)
  | inr past ↦ get_or_past xs i d past
]
