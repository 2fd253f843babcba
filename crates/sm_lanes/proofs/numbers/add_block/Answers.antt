use Rattle.std.proofs.Common.{ℕ, ◌+◌, ◌<◌, w64, arith}
use Rattle.std.specs.Prelude.{◌+ℤ◌, FitsSigned}
use Rattle.sm_lanes.specs.Numbers.{number_at}
use Rattle.sm_lanes.proofs.BlockSteps.{in_block}
use Rattle.sm_lanes.proofs.SignedLanes.{sum_inside, sum_below, sum_above}
use Rattle.sm_lanes.proofs.numbers.add_block.Goals as goal

pub returns-clause-inside : goal.returns-clause-inside
returns-clause-inside c =
    let at = c.args.at in
    let numbers = c.args.numbers.now in
    let loaded = c.load.ensures in
    let fits : (j : ℕ) → j < 8 → FitsSigned w64 (number_at numbers (at + j) +ℤ c.args.amount) =
    λ j l. c.requires.fits (at + j) (omega arith) (omega arith) in
    in_block _ at 8
    (sum_inside at 8 numbers c.load.result c.args.amount loaded.long c.requires.room c.ranges.amount loaded.fits fits loaded.lanes)

pub returns-clause-below : goal.returns-clause-below
returns-clause-below c =
    sum_below c.args.at 8 c.args.numbers.now c.load.result c.args.amount c.load.ensures.long c.requires.room

pub returns-clause-above : goal.returns-clause-above
returns-clause-above c =
    sum_above c.args.at 8 c.args.numbers.now c.load.result c.args.amount c.load.ensures.long c.requires.room
