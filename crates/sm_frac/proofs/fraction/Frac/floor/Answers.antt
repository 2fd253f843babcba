use Rattle.std.proofs.Common.{rules}
use Rattle.std.proofs.lemmas.Int.{to_z-of_z}
use Rattle.std.specs.Int.{w128}
use mir.Val.{SFits}
use Rattle.sm_frac.proofs.Nearest.{is_floor}
use Rattle.sm_frac.proofs.fraction.Frac.floor.Goals as goal

pub returns : goal.returns
returns c =
    let a : SFits w128 c.args.self.n = search rules in
    let b : SFits w128 c.args.self.d = search rules in
    let r : SFits w128 c.quotient_down.result = search rules in
    simp to_z-of_z (is_floor c.args.self c.quotient_down.result (simp to_z-of_z at c.quotient_down.ensures))
