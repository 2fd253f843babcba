use Rattle.sm_drafts.proofs.Parts.{passes_single}
use Rattle.sm_drafts.specs.Drafts.{bound_tried}
use Rattle.sm_drafts.proofs.bounds.try_presence.Goals as goal

pub returns-in-Some : goal.returns-in-Some
returns-in-Some c = rw c.in-Some.is (passes_single (bound_tried c.in-Some.literal.bound) c.try_bound.result c.try_bound.ensures.tried)
