use Rattle.std.specs.Prelude.{◌+◌, ◌*◌, max}
use Rattle.sm_clausify.specs.declared.formula.Formula.{Formula, size-Formula}
use Rattle.sm_clausify.specs.Propositions.{meaning}
use Rattle.sm_meaning.specs.Limits.{literal_bounds}
use Rattle.sm_drafts.specs.Drafts.{bounds_tried}
use Rattle.sm_drafts.proofs.Parts.{PassedUpTo}
use Rattle.sm_drafts.proofs.literals.+literals.Given as goal

abbrev pub invariant-try_all-loop-part : goal.invariant-try_all-loop-part
invariant-try_all-loop-part l = PassedUpTo (λ (f : Formula). bounds_tried (literal_bounds (meaning f))) l.part-index l.parts

-- each call goes to a part, or one step down at the same formulas
abbrev pub decreases-try_literals : goal.decreases-try_literals
decreases-try_literals a = 2 * size-Formula a.formula.now

abbrev pub decreases-try_both : goal.decreases-try_both
decreases-try_both a = 2 * max (size-Formula a.first.now) (size-Formula a.second.now) + 1

abbrev pub decreases-try_all : goal.decreases-try_all
decreases-try_all a = 2 * goal.size-try_all a + 1
