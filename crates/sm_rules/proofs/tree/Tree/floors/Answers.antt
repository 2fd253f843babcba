use Rattle.std.proofs.Common.{sym, ap, ◌∙◌}
use Rattle.sm_rules.specs.Nodes.{KeptNode}
use Rattle.sm_rules.specs.Places.{IsPlace}
use Rattle.sm_rules.proofs.Places.{at_read}
use Rattle.sm_rules.proofs.KeptTrees.{floors_found, none_over}
use Rattle.sm_rules.proofs.tree.Tree.floors.Goals as goal

pub returns-in_err-place-clause-none : goal.returns-in_err-place-clause-none
returns-in_err-place-clause-none c = rw (c.from_residual.ensures, ← c.self.view_is) (none_over c.self.inside.declared c.self.inside.nodes.items c.args.number (rw c.deref.ensures.value at c.in_err-place.ensures.none))

pub returns-clause-found : goal.returns-clause-found
returns-clause-found c =
    let items = c.self.inside.nodes.items in
    let at : IsPlace items c.in_ok-place.place c.args.number = rw c.deref.ensures.value at c.in_ok-place.ensures.found in
    let read = ap (λ (n : KeptNode). n.floors) (at_read items c.in_ok-place.place c.index.result.now at.within c.index.ensures) in
    rw (← c.self.view_is) (c.floors.ensures ∙ sym read ∙ floors_found c.self.inside.declared items c.in_ok-place.place c.args.number c.self.invariant.rising at)
