use Rattle.std.proofs.Common.{rules}
use Rattle.std.proofs.lemmas.Int.{to_z-of_z}
use Rattle.std.specs.Int.{w128}
use mir.Val.{SFits}
use Rattle.sm_frac.proofs.Order.{order_of_cross}
use Rattle.sm_frac.proofs.fraction.Frac.compare.Goals as goal

pub returns : goal.returns
returns c =
    let a : SFits w128 c.args.self.n = search rules in
    let b : SFits w128 c.args.self.d = search rules in
    let x : SFits w128 c.args.other.n = search rules in
    let y : SFits w128 c.args.other.d = search rules in
    order_of_cross c.args.self c.args.other _ (simp to_z-of_z at c.compare_ratios.ensures)
