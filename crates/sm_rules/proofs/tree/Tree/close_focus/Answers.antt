use Rattle.std.proofs.Common.{◌≡◌, ◌+◌, refl}
use Rattle.sm_rules.specs.declared.node.Status.TheVariants.{Open}
use Rattle.sm_rules.specs.Places.{IsPlace}
use Rattle.sm_rules.specs.Trees.{node_at, pruned, without_node}
use Rattle.sm_rules.specs.KeptNodes.{nodes_over}
use Rattle.sm_rules.proofs.Children.{not_open_none}
use Rattle.sm_rules.proofs.KeptTrees.{kept_raw, closed_is, closed_kept, none_over}
use Rattle.sm_rules.proofs.tree.Tree.close_focus.Goals as goal

pub drop_refuted-requires-clause-kept : goal.drop_refuted-requires-clause-kept
drop_refuted-requires-clause-kept c = kept_raw c.self.inside.declared c.self.inside.nodes.items (rw (← c.self.view_is) at c.requires.kept)

pub invariant_of-self : goal.invariant_of-self
invariant_of-self c =
    let items = c.self.inside.nodes.items in
    let at : IsPlace items c.in-Some.place c.self.inside.focus = rw c.deref.ensures.value at c.in-Some.ensures.found in
    let closed : c.drop_refuted.new.nodes.items ≡ pruned (without_node items c.self.inside.focus) = rw at.here at c.drop_refuted.ensures in
    rw closed (closed_kept c.self.inside.declared items (c.self.inside.opened + 1) c.self.inside.focus c.self.inside.store c.self.invariant (rw (← c.self.view_is) at c.requires.open))

pub returns-in-Some : goal.returns-in-Some
returns-in-Some c =
    let items = c.self.inside.nodes.items in
    let at : IsPlace items c.in-Some.place c.self.inside.focus = rw c.deref.ensures.value at c.in-Some.ensures.found in
    let closed : c.drop_refuted.new.nodes.items ≡ pruned (without_node items c.self.inside.focus) = rw at.here at c.drop_refuted.ensures in
    rw (closed, ← c.self.view_is, closed_is c.self.inside.declared items (c.self.inside.opened + 1) c.self.inside.focus c.self.inside.store c.self.invariant (rw (← c.self.view_is) at c.requires.open)) refl

pub returns-in_default : goal.returns-in_default
returns-in_default c =
    let items = c.self.inside.nodes.items in
    let none = none_over c.self.inside.declared items c.self.inside.focus (rw c.deref.ensures.value at c.in_default.ensures.none) in
    let is_open : (node_at (nodes_over c.self.inside.declared items) c.self.inside.focus).status ≡ Open = rw (← c.self.view_is) at c.requires.open in
    absurd (not_open_none (nodes_over c.self.inside.declared items) c.self.inside.focus none is_open)
