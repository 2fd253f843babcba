use Rattle.std.proofs.Common.{ℕ, ◌<◌, ◌≤◌}
use Rattle.sm_store.specs.Stores.{extent_at, size_in}
use Rattle.sm_search.proofs.pick.first_unfixed.Given as goal

abbrev pub invariant-loop-i : goal.invariant-loop-i
invariant-loop-i l = (k : ℕ) → k < l.i → size_in (extent_at l.store k).kind (extent_at l.store k).values ≤ 1
