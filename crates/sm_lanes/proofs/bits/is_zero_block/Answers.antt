use Rattle.sm_lanes.proofs.WordBlocks.{words_zero}
use Rattle.sm_lanes.proofs.bits.is_zero_block.Goals as goal

pub returns : goal.returns
returns c = words_zero c.args.at 8 c.args.words.now
