use Rattle.sm_kinds.proofs.Circuits.{IsWalking}
use Rattle.sm_kinds.proofs.circuit.holds.Given as goal

abbrev pub invariant-loop-step : goal.invariant-loop-step
invariant-loop-step g l = IsWalking (g.V.Values.point l.a) l.successors l.step l.node
