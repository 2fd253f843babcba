use Rattle.std.proofs.Common.{◌≡◌, ◌++◌, drop}
use Rattle.sm_flat.specs.Assignments.{point_of}
use Rattle.sm_reports.specs.Briefs.{value_lines}
use Rattle.sm_reports.proofs.brief.push_values.Given as goal

abbrev pub invariant-loop-i : goal.invariant-loop-i
invariant-loop-i l = record {
  same : l.d ≡ l.best.denominator;
  left : l.into.items ++ value_lines (point_of l.best) l.i (drop l.i l.vars) ≡ l.fn.into.items ++ value_lines (point_of l.best) 0 l.vars;
}
