use Rattle.std.proofs.Common.{◌≡◌, take}
use Rattle.sm_search.specs.Leaves.{first_values}
use Rattle.sm_search.proofs.leaf.first_values.Given as goal

abbrev pub invariant-loop-i : goal.invariant-loop-i
invariant-loop-i l = l.values.items ≡ first_values (take l.i l.store)
