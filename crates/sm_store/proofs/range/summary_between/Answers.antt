use Rattle.std.proofs.Common.{◌+◌, rules, arith, w64}
use Rattle.std.proofs.lemmas.Int.{ints, to_z-of_z}
use Rattle.sm_store.proofs.Cells.{range_summary}
use Rattle.sm_store.proofs.range.summary_between.Goals as goal
use mir.Val.{SFits}

pub returns-clause-summary : goal.returns-clause-summary
returns-clause-summary c =
    let first : SFits w64 c.args.first.now = search rules in
    let last : SFits w64 c.args.last.now = search rules in
    simp to_z-of_z (range_summary c.args.first.now c.args.last.now (c.unsigned_abs.result + 1) c.requires.order (omega (arith, ints, c.unsigned_abs.ensures)))
