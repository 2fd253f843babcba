use Rattle.std.proofs.Common.{◌≡◌, drop}
use Rattle.sm_meaning.specs.Limits.{least_of}
use Rattle.sm_declarations.proofs.spans.least_of.Given as goal

abbrev pub invariant-loop-number : goal.invariant-loop-number
invariant-loop-number l = least_of l.least (drop l.number-index l.more) ≡ least_of l.fn.first l.more
