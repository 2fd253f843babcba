use Rattle.std.specs.Prelude.{ℤ}
use Rattle.sm_meaning.specs.Refusals.{number_over}
use Rattle.sm_meaning.specs.Trials.{tried}
use Rattle.sm_drafts.proofs.Parts.{PassedUpTo}
use Rattle.sm_drafts.proofs.numbers.try_numbers.Given as goal

abbrev pub invariant-loop-number : goal.invariant-loop-number
invariant-loop-number l = PassedUpTo (λ (z : ℤ). tried (number_over l.what l.bound z)) l.number-index l.numbers
