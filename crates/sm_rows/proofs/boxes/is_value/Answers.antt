use Rattle.std.proofs.Common.{rules}
use Rattle.std.proofs.lemmas.Int.{to_z-of_z}
use Rattle.std.specs.Int.{w64}
use mir.Val.{SFits}
use Rattle.sm_store.specs.Stores.{extent_at}
use Rattle.sm_rows.proofs.Between.{is_value_of}
use Rattle.sm_rows.proofs.boxes.is_value.Goals as goal

pub returns : goal.returns
returns c =
    let e = extent_at c.args.store.now c.args.var in
    let fits : SFits w64 c.args.value.now = search rules in
    is_value_of e.kind e.values c.args.value.now c.has.result (simp to_z-of_z at c.has.ensures)
