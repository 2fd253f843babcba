use Rattle.std.proofs.Common.{Err}
use Rattle.std.proofs.lemmas.Result.{err_from_is_err_and}
use Rattle.sm_kinds.specs.declared.packing.Item.{Item}
use Rattle.sm_drafts.specs.Drafts.{entry_tried, entries_tried}
use Rattle.sm_drafts.proofs.Parts.{split_item, refused_at, all_passed, passes_each}
use Rattle.sm_drafts.proofs.entries.try_costs.Goals as goal

pub returns-in_err-try_members : goal.returns-in_err-try_members
returns-in_err-try_members c =
    let p = err_from_is_err_and c.from_residual.result c.from_residual.ensures.1 in
    rw (p.1, p.2) (refused_at c.in_err-try_members.field-0.0 (λ (i : Item). entries_tried i.costs) c.args.items.now c.loop-item.item-index c.item-item.result
    (split_item c.args.items.now c.loop-item.item-index c.item-item.result c.loop-item-test.true c.item-item.is) c.loop-item.invariant (passes_each entry_tried _ (c.item-item.result.costs) (Err c.in_err-try_members.field-0.0) c.as_slice.ensures c.in_err-try_members.ensures))

pub returns : goal.returns
returns c = all_passed (λ (i : Item). entries_tried i.costs) c.args.items.now c.loop-item.item-index tt c.loop-item-test.false c.loop-item.invariant
