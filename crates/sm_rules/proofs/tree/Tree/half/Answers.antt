use Rattle.std.proofs.Common.{arith}
use Rattle.sm_rules.proofs.KeptTrees.{half_over, no_half_over, half_known}
use Rattle.sm_rules.proofs.tree.Tree.half.Goals as goal

pub returns-in_err-number-clause-none : goal.returns-in_err-number-clause-none
returns-in_err-number-clause-none c = rw (c.from_residual.ensures, ← c.self.view_is) (no_half_over c.self.inside.declared c.self.inside.nodes.items (rw c.deref.ensures.value at c.in_err-number.ensures.none))

pub complement-requires : goal.complement-requires
complement-requires c =
    let some = rw c.deref.ensures.value at c.in_ok-number.ensures.some in
    let known = half_known _ c.self.inside.nodes.items c.in_ok-number.number c.in_ok-number.first c.self.invariant.known some.1 in
    let bounded = known.bounded in
    omega arith

pub returns-clause-some : goal.returns-clause-some
returns-clause-some c =
    let some = rw c.deref.ensures.value at c.in_ok-number.ensures.some in
    rw (c.complement.ensures, ← c.self.view_is) (half_over c.self.inside.declared c.self.inside.nodes.items c.in_ok-number.number _ some.0)
