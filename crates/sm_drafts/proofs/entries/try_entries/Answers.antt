use Rattle.std.proofs.Common.{slice_index_or, pos}
use Rattle.std.proofs.lemmas.Result.{err_from_is_err_and}
use Rattle.sm_kinds.specs.declared.element.Entry.{Entry}
use Rattle.sm_kinds.specs.declared.element.Entry.TheVariants as entry
use Rattle.sm_meaning.specs.Limits.{entry_numbers}
use Rattle.sm_drafts.specs.Drafts.{entries_tried}
use Rattle.sm_drafts.proofs.Parts.{split_at, refused_at, all_passed}
use Rattle.sm_drafts.proofs.entries.try_entries.Goals as goal

pub returns-in_err-try_entry : goal.returns-in_err-try_entry
returns-in_err-try_entry c =
    let p = err_from_is_err_and c.from_residual.result c.from_residual.ensures.1 in
    rw (p.1, p.2) (refused_at c.in_err-try_entry.field-0.0 (λ (e : Entry). entries_tried (entry_numbers e)) c.args.entries.now c.loop-entry.entry-index (slice_index_or c.args.entries.now c.loop-entry.entry-index (entry.Number (pos 0)))
    (split_at c.args.entries.now c.loop-entry.entry-index (entry.Number (pos 0)) c.loop-entry-test.true) c.loop-entry.invariant c.in_err-try_entry.ensures)

pub returns : goal.returns
returns c = all_passed (λ (e : Entry). entries_tried (entry_numbers e)) c.args.entries.now c.loop-entry.entry-index tt c.loop-entry-test.false c.loop-entry.invariant
