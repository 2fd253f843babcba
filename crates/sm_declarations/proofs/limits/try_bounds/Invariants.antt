use Rattle.std.specs.Prelude.{ℤ}
use Rattle.sm_drafts.specs.Drafts.{bound_tried}
use Rattle.sm_drafts.proofs.Parts.{PassedUpTo}
use Rattle.sm_declarations.proofs.limits.try_bounds.Given as goal

abbrev pub invariant-loop-number : goal.invariant-loop-number
invariant-loop-number l = PassedUpTo (λ (z : ℤ). bound_tried z) l.number-index l.numbers
