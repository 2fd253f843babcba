use Rattle.std.proofs.Common.{rules, arith}
use Rattle.std.proofs.lemmas.Int.{ints, to_z-of_z}
use Rattle.std.specs.Int.{w128}
use mir.Val.{SFits}
use Rattle.sm_frac.proofs.FracLemmas.{lowest_whole}
use Rattle.sm_search.proofs.turn.whole.Goals as goal

pub unwrap-requires : goal.unwrap-requires
unwrap-requires c =
    let a : SFits w128 c.args.number = search rules in
    let h = simp to_z-of_z at c.new.ensures.some in
    h.1 (omega (arith, ints), c.requires, lowest_whole c.args.number)
