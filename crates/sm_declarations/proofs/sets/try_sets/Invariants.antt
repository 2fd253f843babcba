use Rattle.std.proofs.Common.{[]}
use Rattle.sm_meaning.specs.ExpressionTrials.{set_tried}
use Rattle.sm_drafts.proofs.Parts.{PassedUpTo}
use Rattle.sm_declarations.proofs.sets.try_sets.Given as goal

abbrev pub invariant-loop-set : goal.invariant-loop-set
invariant-loop-set l = PassedUpTo (set_tried l.fn.scope []) l.set-index l.sets
