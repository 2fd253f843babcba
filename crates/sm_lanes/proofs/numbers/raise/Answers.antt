use Rattle.sm_lanes.proofs.ComparedLanes.{raised_length, greater_lane, greater_fits}
use Rattle.sm_lanes.proofs.numbers.raise.Goals as goal

pub returns-clause-long : goal.returns-clause-long
returns-clause-long c = raised_length 8 c.args.tops c.load.result c.requires.long c.load.ensures.long

pub returns-clause-fits : goal.returns-clause-fits
returns-clause-fits c =
    let loaded = c.load.ensures in
    greater_fits 8 c.args.tops c.load.result c.requires.long loaded.long c.args.at c.args.numbers.now loaded.lanes
    c.requires.fits loaded.fits

pub returns-clause-greater : goal.returns-clause-greater
returns-clause-greater c =
    let loaded = c.load.ensures in
    greater_lane 8 c.args.tops c.load.result c.requires.long loaded.long c.args.at c.args.numbers.now loaded.lanes
    c.requires.fits loaded.fits
