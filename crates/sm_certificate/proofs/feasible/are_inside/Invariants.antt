use Rattle.std.proofs.Common.{ℕ, ◌<◌, pos, get_or}
use Rattle.sm_certificate.specs.Program.{point_value}
use Rattle.sm_certificate.specs.Checking.{IsInside}
use Rattle.sm_certificate.proofs.feasible.are_inside.Given as goal

abbrev pub invariant-loop-j : goal.invariant-loop-j
invariant-loop-j l = (k : ℕ) → k < l.j → IsInside (get_or l.columns k (pos 0, pos 0)) (point_value l.point l.denominator k)
