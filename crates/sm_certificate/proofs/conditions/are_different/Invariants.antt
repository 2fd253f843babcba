use Rattle.std.proofs.Common.{ℕ, ℤ, ◌<◌, ◌≢◌, slice_index_or}
use Rattle.sm_certificate.proofs.conditions.are_different.Given as goal

abbrev pub invariant-loop-j : goal.invariant-loop-j
invariant-loop-j l = (i k : ℕ) (d : ℕ × ℤ) → i < k → k < l.j → (slice_index_or l.terms i d).0 ≢ (slice_index_or l.terms k d).0
