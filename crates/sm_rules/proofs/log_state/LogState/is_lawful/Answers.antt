use Rattle.std.proofs.Common.{rules, ◌≡◌, to_z, of_z}
use Rattle.std.proofs.lemmas.Int.{to_z-of_z}
use Rattle.std.specs.Int.{w64}
use mir.Val.{SFits}
use Rattle.sm_rules.proofs.log_state.LogState.is_lawful.Goals as goal

pub returns-in-Sol : goal.returns-in-Sol
returns-in-Sol c =
    let fits : SFits w64 c.in-Sol.denominator = search rules in
    let e : to_z w64 (of_z w64 c.in-Sol.denominator) ≡ c.in-Sol.denominator = to_z-of_z w64 c.in-Sol.denominator fits in
    rw (c.in-Sol.is, ← c.self.view_is) (rw (e, c.as_slice-in-Sol.ensures) at c.is_next_best.ensures)

pub returns-in-Node : goal.returns-in-Node
returns-in-Node c = rw (c.in-Node.is, ← c.self.view_is) c.is_lawful_child.ensures
