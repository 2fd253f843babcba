use Rattle.std.proofs.Common.{rules}
use Rattle.sm_kinds.proofs.Adding.{element_at}
use Rattle.sm_kinds.proofs.element.holds.Goals as goal

pub returns-in-Some : goal.returns-in-Some
returns-in-Some g c =
    let same = element_at (g.V.Values.point c.args.a.now) c.args.x c.args.entries.now c.args.z c.in-Some.j c.in-Some.ensures.value.0 c.in-Some.ensures.value.1 c.in-Some.ensures.one in
    search (rules, same)
