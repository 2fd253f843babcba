use Rattle.sm_kinds.specs.declared.element.Entry.{Entry}
use Rattle.sm_meaning.specs.Limits.{entry_numbers}
use Rattle.sm_drafts.specs.Drafts.{entries_tried}
use Rattle.sm_drafts.proofs.Parts.{PassedUpTo}
use Rattle.sm_drafts.proofs.entries.try_entries.Given as goal

abbrev pub invariant-loop-entry : goal.invariant-loop-entry
invariant-loop-entry l = PassedUpTo (λ (e : Entry). entries_tried (entry_numbers e)) l.entry-index l.entries
