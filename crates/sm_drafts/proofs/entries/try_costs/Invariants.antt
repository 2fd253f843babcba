use Rattle.sm_kinds.specs.declared.packing.Item.{Item}
use Rattle.sm_drafts.specs.Drafts.{entries_tried}
use Rattle.sm_drafts.proofs.Parts.{PassedUpTo}
use Rattle.sm_drafts.proofs.entries.try_costs.Given as goal

abbrev pub invariant-loop-item : goal.invariant-loop-item
invariant-loop-item l = PassedUpTo (λ (i : Item). entries_tried i.costs) l.item-index l.items
