use Rattle.sm_lanes.specs.Numbers.{SumsFit}
use Rattle.test_numbers.proofs.lanes.can_add.Given as goal

abbrev pub invariant-loop-place : goal.invariant-loop-place
invariant-loop-place l = SumsFit l.numbers l.from l.place l.amount
