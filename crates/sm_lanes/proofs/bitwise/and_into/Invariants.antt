use Rattle.std.proofs.Common.{◌-◌}
use Rattle.std.specs.Prelude.{bit_and}
use Rattle.sm_lanes.proofs.Combined.{Combined}
use Rattle.sm_lanes.proofs.bitwise.and_into.Given as goal

abbrev pub invariant-loop-at : goal.invariant-loop-at
invariant-loop-at l = Combined bit_and l.fn.into l.other l.into l.len l.at

abbrev pub decreases-loop-at : goal.decreases-loop-at
decreases-loop-at l = l.len - l.at

abbrev pub invariant-loop-at-2 : goal.invariant-loop-at-2
invariant-loop-at-2 l = Combined bit_and l.fn.into l.other l.into l.len l.at

abbrev pub decreases-loop-at-2 : goal.decreases-loop-at-2
decreases-loop-at-2 l = l.len - l.at
