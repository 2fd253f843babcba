use Rattle.sm_store.proofs.Declared.{declared_block}
use Rattle.sm_store.specs.Blocks.{IsKept}
use Rattle.sm_store.proofs.store.Store.declared.Goals as goal

pub invariant_of-result : goal.invariant_of-result
unfolding IsKept
invariant_of-result c =
    let same = c.in_ok-places-2.ensures.ok in
    rw same (declared_block c.vars.result.now c.in_ok-places.places.items c.in_ok-places.block.items (rw c.vars.ensures.value c.vars.ensures.limits.vars.each) c.in_ok-places.ensures.parts c.in_ok-places.ensures.extents)
