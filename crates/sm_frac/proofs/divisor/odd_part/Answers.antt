use Rattle.std.specs.Int.{w128}
use Rattle.sm_frac.proofs.BinaryGcd.{odd_part_same, odd_part_odd}
use Rattle.sm_frac.proofs.divisor.odd_part.Goals as goal

pub returns-clause-same : goal.returns-clause-same
returns-clause-same c = odd_part_same w128 c.args.number c.requires c.ranges.number.fits

pub returns-clause-odd : goal.returns-clause-odd
returns-clause-odd c = odd_part_odd w128 c.args.number c.requires c.ranges.number.fits
