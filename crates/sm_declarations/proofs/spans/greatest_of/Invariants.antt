use Rattle.std.proofs.Common.{◌≡◌, drop}
use Rattle.sm_meaning.specs.Limits.{greatest_of}
use Rattle.sm_declarations.proofs.spans.greatest_of.Given as goal

abbrev pub invariant-loop-number : goal.invariant-loop-number
invariant-loop-number l = greatest_of l.greatest (drop l.number-index l.more) ≡ greatest_of l.fn.first l.more
