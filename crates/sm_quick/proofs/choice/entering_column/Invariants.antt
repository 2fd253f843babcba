use Rattle.std.proofs.Common.{◌<◌, IfSome}
use Rattle.sm_quick.proofs.choice.entering_column.Given as goal

abbrev pub invariant-loop-j : goal.invariant-loop-j
invariant-loop-j l = IfSome l.best (λ b. b.column < l.tableau.constant)
