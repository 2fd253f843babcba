use Rattle.std.proofs.Common.{arith, ℕ, ◌+◌, ◌<◌, get_or, w64}
use Rattle.std.specs.Prelude.{pos, FitsSigned}
use Rattle.std.proofs.lemmas.Grind.{common_steps}
use Rattle.sm_lanes.proofs.SignedLanes.{loaded}
use Rattle.sm_lanes.proofs.numbers.load.Goals as goal

pub returns-clause-lanes : goal.returns-clause-lanes
returns-clause-lanes c =
    let fits : (k : ℕ) → k < 8 → FitsSigned w64 (get_or c.args.numbers.now (c.args.at + k) (pos 0)) = grind (arith, common_steps) in
    loaded c.args.at 8 c.args.numbers.now c.requires fits
