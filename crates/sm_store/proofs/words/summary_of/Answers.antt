use Rattle.std.proofs.Common.{rules, w64}
use Rattle.std.proofs.lemmas.Int.{to_z-of_z}
use Rattle.sm_store.proofs.WordPlaces.{ones_summary}
use Rattle.sm_store.proofs.words.summary_of.Goals as goal
use mir.Val.{SFits}

pub returns : goal.returns
returns c =
    let least : SFits w64 c.value_at.result = search rules in
    let greatest : SFits w64 c.value_at-2.result = search rules in
    simp to_z-of_z (rw (c.value_at.ensures, c.value_at-2.ensures) (ones_summary c.args.base.now c.args.words.now c.in-Some.first c.in-Some-last_one.last c.count_ones.result c.in-Some.ensures.found c.in-Some-last_one.ensures.found c.count_ones.ensures))
