use Rattle.std.proofs.Common.{◌≡◌, take}
use Rattle.sm_store.specs.Stores.{declared}
use Rattle.sm_store.specs.Blocks.{extents, AreParts}
use Rattle.sm_store.proofs.build.declared_block.Given as goal

abbrev pub invariant-loop-var : goal.invariant-loop-var
invariant-loop-var l = record {
  extents : extents l.places.items l.block.items ≡ declared (take l.var-index l.vars);
  parts : AreParts l.places.items l.block.items;
}
