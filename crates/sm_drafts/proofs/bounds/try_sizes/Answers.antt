use Rattle.std.proofs.lemmas.Result.{err_from_is_err_and}
use Rattle.sm_kinds.specs.declared.packing.Item.{Item}
use Rattle.sm_drafts.specs.Drafts.{bound_tried}
use Rattle.sm_drafts.proofs.Parts.{split_item, refused_at, all_passed}
use Rattle.sm_drafts.proofs.bounds.try_sizes.Goals as goal

pub returns-in_err-try_bound : goal.returns-in_err-try_bound
returns-in_err-try_bound c =
    let p = err_from_is_err_and c.from_residual.result c.from_residual.ensures.1 in
    rw (p.1, p.2) (refused_at c.in_err-try_bound.field-0.0 (λ (i : Item). bound_tried i.size) c.args.items.now c.loop-item.item-index c.item-item.result
    (split_item c.args.items.now c.loop-item.item-index c.item-item.result c.loop-item-test.true c.item-item.is) c.loop-item.invariant c.in_err-try_bound.ensures.tried)

pub returns : goal.returns
returns c = all_passed (λ (i : Item). bound_tried i.size) c.args.items.now c.loop-item.item-index tt c.loop-item-test.false c.loop-item.invariant
