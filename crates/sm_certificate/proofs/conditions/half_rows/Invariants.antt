use Rattle.std.proofs.Common.{◌≡◌, ◌+◌, length, drop}
use Rattle.sm_certificate.specs.Slacks.{halves}
use Rattle.sm_certificate.proofs.conditions.half_rows.Given as goal

abbrev pub invariant-loop-row : goal.invariant-loop-row
invariant-loop-row l = l.count + length (halves (drop l.row-index l.rows)) ≡ length (halves l.rows)
