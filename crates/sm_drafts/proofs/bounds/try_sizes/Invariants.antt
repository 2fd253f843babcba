use Rattle.sm_kinds.specs.declared.packing.Item.{Item}
use Rattle.sm_drafts.specs.Drafts.{bound_tried}
use Rattle.sm_drafts.proofs.Parts.{PassedUpTo}
use Rattle.sm_drafts.proofs.bounds.try_sizes.Given as goal

abbrev pub invariant-loop-item : goal.invariant-loop-item
invariant-loop-item l = PassedUpTo (λ (i : Item). bound_tried i.size) l.item-index l.items
