use Rattle.std.specs.Prelude.{bit_and}
use Rattle.sm_lanes.proofs.Blocks.{stored_inside, stored_below, stored_above}
use Rattle.sm_lanes.proofs.bitwise.and_block.Goals as goal

pub returns-clause-inside : goal.returns-clause-inside
returns-clause-inside c = stored_inside bit_and c.args.at 8 c.args.into.now c.args.other.now c.requires.into c.requires.other

pub returns-clause-below : goal.returns-clause-below
returns-clause-below c = stored_below bit_and c.args.at 8 c.args.into.now c.args.other.now c.requires.into c.requires.other

pub returns-clause-above : goal.returns-clause-above
returns-clause-above c = stored_above bit_and c.args.at 8 c.args.into.now c.args.other.now c.requires.into c.requires.other
