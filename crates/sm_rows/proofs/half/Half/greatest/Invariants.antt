use Rattle.std.proofs.Common.{◌≡◌, ◌≤◌, ◌^◌, ◌*◌, unsigned_abs, drop, length, ◌+ℤ◌}
use Rattle.sm_rows.specs.Halves.{greatest_sum}
use Rattle.sm_rows.proofs.half.Half.greatest.Given as goal

abbrev pub invariant-loop-place : goal.invariant-loop-place
invariant-loop-place l = record {
  so_far : l.total +ℤ greatest_sum l.store (drop l.place l.self.terms) ≡ greatest_sum l.store l.self.terms;
  bound : unsigned_abs l.total ≤ l.place * 2 ^ 62;
  end : l.place-end ≡ length l.self.terms;
}
