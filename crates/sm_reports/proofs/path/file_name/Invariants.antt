use Rattle.std.proofs.Common.{◌≡◌, length}
use Rattle.sm_data.specs.Paths.{name_in, file_name}
use Rattle.sm_reports.proofs.path.file_name.Given as goal

abbrev pub invariant-loop-first : goal.invariant-loop-first
invariant-loop-first l = name_in l.rest l.name ≡ file_name l.fn.path

abbrev pub decreases-loop-first : goal.decreases-loop-first
decreases-loop-first l = length l.rest
