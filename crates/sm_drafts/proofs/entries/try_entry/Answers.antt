use Rattle.sm_drafts.proofs.Parts.{passes_single}
use Rattle.sm_drafts.specs.Drafts.{entry_tried}
use Rattle.sm_drafts.proofs.entries.try_entry.Goals as goal

pub returns-in-Number : goal.returns-in-Number
returns-in-Number c = rw c.in-Number.is (passes_single (entry_tried c.in-Number.number) c.try_small.result c.try_small.ensures.tried)
