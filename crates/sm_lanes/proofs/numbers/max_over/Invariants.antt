use Rattle.std.proofs.Common.{◌≡◌, ℕ, ◌<◌, ◌≤◌, ◌-◌, length}
use Rattle.std.specs.Prelude.{ℤ, FitsSigned, map}
use Rattle.std.proofs.Common.{to_z, w64}
use Rattle.sm_lanes.specs.Numbers.{number_at, IsAtMost, IsAmong}
use Rattle.sm_lanes.proofs.numbers.max_over.Given as goal

abbrev pub invariant-loop-at : goal.invariant-loop-at
invariant-loop-at l = record {
  low : l.from ≤ l.at;
  high : l.at ≤ l.to;
  long : length l.tops ≡ 8;
  fits : (j : ℕ) → j < 8 → FitsSigned w64 (number_at (map (to_z w64) l.tops) j);
  among : (j : ℕ) → j < 8 → IsAmong l.numbers l.from l.to (number_at (map (to_z w64) l.tops) j);
  covers : (m : ℤ) → IsAtMost (map (to_z w64) l.tops) 0 8 m → IsAtMost l.numbers l.from l.at m;
}

abbrev pub decreases-loop-at : goal.decreases-loop-at
decreases-loop-at l = l.to - l.at
