use Rattle.std.proofs.Common.{◌≡◌, ℕ, ◌+◌, ◌%◌}
use Rattle.std.specs.Int.{IsGcd}
use Rattle.sm_frac.proofs.divisor.gcd_odd.Given as goal

abbrev pub invariant-loop-x : goal.invariant-loop-x
invariant-loop-x l = record { odd : l.x % 2 ≡ 1; divisors : (g : ℕ) → IsGcd l.x l.y g → IsGcd l.fn.odd l.fn.other g }

abbrev pub decreases-loop-x : goal.decreases-loop-x
decreases-loop-x l = l.x + l.y
