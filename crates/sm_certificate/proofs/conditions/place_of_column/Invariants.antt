use Rattle.std.proofs.Common.{ℕ, ℤ, ◌<◌, ◌≢◌, slice_index_or}
use Rattle.sm_certificate.proofs.conditions.place_of_column.Given as goal

abbrev pub invariant-loop-i : goal.invariant-loop-i
invariant-loop-i l = (k : ℕ) (d : ℕ × ℤ) → k < l.i → (slice_index_or l.terms k d).0 ≢ l.column
