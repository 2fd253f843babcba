use Rattle.std.proofs.Common.{ℕ, ◌<◌, length, get_or}
use Rattle.sm_certificate.specs.declared.program.LpRow.{LpRow}
use Rattle.sm_certificate.specs.Program.{point_value, SatisfiesRow}
use Rattle.sm_certificate.proofs.feasible.rows_hold.Given as goal

abbrev pub invariant-loop-row : goal.invariant-loop-row
invariant-loop-row l = (k : ℕ) (z : LpRow) → k < l.row-index → SatisfiesRow (length l.point) (point_value l.point l.denominator) (get_or l.rows k z)
