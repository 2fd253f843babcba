use Rattle.std.proofs.Common.{◌≡◌, ◌+◌, ◌*◌, ◌≤◌, ◌^◌, drop}
use Rattle.sm_meaning.specs.Declarations.{widths_of}
use Rattle.sm_declarations.proofs.spans.widths_of.Given as goal

abbrev pub invariant-loop-var : goal.invariant-loop-var
invariant-loop-var l = record { value : l.widths + widths_of (drop l.var-index l.vars) ≡ widths_of l.vars; bound : l.widths ≤ l.var-index * 2 ^ 64 }
