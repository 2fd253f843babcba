use Rattle.sm_lanes.proofs.WordBlocks.{nothing_missing}
use Rattle.sm_lanes.proofs.bits.is_subset_block.Goals as goal

pub returns : goal.returns
returns c = nothing_missing c.args.at 8 c.args.inner.now c.args.outer.now c.requires.inner c.requires.outer
