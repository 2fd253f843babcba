use Rattle.std.proofs.Common.{◌≡◌, ◌+◌, ◌<◌, length, ℕ, get_or}
use Rattle.sm_lp.proofs.first.numbers_from.Given as goal

abbrev pub invariant-loop-number : goal.invariant-loop-number
invariant-loop-number l = record { long : l.first + length l.numbers.items ≡ l.number; exact : (k : ℕ) → k < length l.numbers.items → get_or l.numbers.items k 0 ≡ l.first + k }
