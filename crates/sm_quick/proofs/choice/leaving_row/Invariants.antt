use Rattle.std.proofs.Common.{◌<◌, IfSome}
use Rattle.sm_quick.proofs.choice.leaving_row.Given as goal

abbrev pub invariant-loop-i : goal.invariant-loop-i
invariant-loop-i l = IfSome l.best (λ b. b.row < l.tableau.goal)
