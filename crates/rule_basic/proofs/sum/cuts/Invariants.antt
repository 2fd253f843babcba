use Rattle.std.proofs.Common.{◌≡◌, ◌≤◌, ◌<◌, ◌^◌, ℕ, pos, length, slice_index_or, unsigned_abs}
use Rattle.sm_rows.specs.Halves.{greatest_sum, IsTooLittle}
use Rattle.sm_rows.specs.Inferences.{CutsOnly}
use Rattle.rule_basic.proofs.sum.cuts.Given as goal

-- no term before this place is one by which the literal cuts
abbrev pub invariant-loop-place : goal.invariant-loop-place
invariant-loop-place l = record {
  none : (i : ℕ) → i < l.place → (slice_index_or l.half.terms i (0, pos 0)).0 ≡ l.literal.var → CutsOnly (IsTooLittle l.store l.half (slice_index_or l.half.terms i (0, pos 0))) l.store l.literal → ⊥;
  greatest : l.greatest ≡ greatest_sum l.store l.half.terms;
  room : unsigned_abs l.greatest ≤ 2 ^ 72;
  end : l.place-end ≡ length l.half.terms;
}
