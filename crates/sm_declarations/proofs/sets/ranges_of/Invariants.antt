use Rattle.std.proofs.Common.{◌≡◌, ◌++◌, drop}
use Rattle.sm_meaning.specs.Declarations.{ranges_of}
use Rattle.sm_declarations.proofs.sets.ranges_of.Given as goal

abbrev pub invariant-loop-set : goal.invariant-loop-set
invariant-loop-set l = l.ranges.items ++ ranges_of l.fn.scope.names (drop l.set-index l.sets) ≡ ranges_of l.fn.scope.names l.sets
