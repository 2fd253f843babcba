use Rattle.std.proofs.Common.{ℕ, ℤ, List, Err}
use Rattle.std.proofs.lemmas.Result.{err_from_is_err_and}
use Rattle.sm_drafts.specs.Drafts.{entry_tried, entries_tried}
use Rattle.sm_drafts.proofs.Parts.{split_item, refused_at, all_passed, passes_each}
use Rattle.sm_drafts.proofs.entries.try_tables.Goals as goal

pub returns-in_err-try_members : goal.returns-in_err-try_members
returns-in_err-try_members c =
    let p = err_from_is_err_and c.from_residual.result c.from_residual.ensures.1 in
    rw (p.1, p.2) (refused_at c.in_err-try_members.field-0.0 (λ (p : ℕ × List ℤ). entries_tried p.1) c.args.picks.now c.loop-pick.pick-index c.pick-item.result
    (split_item c.args.picks.now c.loop-pick.pick-index c.pick-item.result c.loop-pick-test.true c.pick-item.is) c.loop-pick.invariant (passes_each entry_tried _ (c.pick-item.result.1) (Err c.in_err-try_members.field-0.0) c.as_slice.ensures c.in_err-try_members.ensures))

pub returns : goal.returns
returns c = all_passed (λ (p : ℕ × List ℤ). entries_tried p.1) c.args.picks.now c.loop-pick.pick-index tt c.loop-pick-test.false c.loop-pick.invariant
