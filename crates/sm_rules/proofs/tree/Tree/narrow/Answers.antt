use Rattle.std.proofs.Common.{◌≡◌, ◌+◌, length, refl}
use Rattle.sm_rules.specs.declared.node.Status.TheVariants.{Open}
use Rattle.sm_rules.specs.Places.{IsPlace}
use Rattle.sm_rules.specs.Trees.{node_at}
use Rattle.sm_rules.specs.KeptNodes.{AreKnown, nodes_over}
use Rattle.sm_rules.proofs.Children.{not_open_none}
use Rattle.sm_rules.proofs.KeptTrees.{none_over}
use Rattle.sm_rules.proofs.FocusChanges.{focus_store, narrowed_is, narrowed_kept}
use Rattle.sm_rules.proofs.tree.Tree.narrow.Goals as goal

pub unreachable-requires : goal.unreachable-requires
unreachable-requires c =
    let items = c.self.inside.nodes.items in
    let d = c.self.inside.declared in
    let none = none_over d items c.self.inside.focus (rw c.deref.ensures.value at c.in_default.ensures.none) in
    let is_open : (node_at (nodes_over d items) c.self.inside.focus).status ≡ Open = rw (← c.self.view_is) at c.requires.open in
    (not_open_none (nodes_over d items) c.self.inside.focus none is_open)

pub narrow_at-requires-clause-known : goal.narrow_at-requires-clause-known
narrow_at-requires-clause-known c =
    let items = c.self.inside.nodes.items in
    let d = c.self.inside.declared in
    let count = c.self.inside.opened + 1 in
    let focus = c.self.inside.focus in
    let at : IsPlace items c.in-Some.place focus = rw c.deref.ensures.value at c.in-Some.ensures.found in
    let is_open : (node_at (nodes_over d items) focus).status ≡ Open = rw (← c.self.view_is) at c.requires.open in
    let known : AreKnown (length (node_at (nodes_over d items) focus).store) c.args.literals.now = rw (← c.self.view_is) at c.requires.known in
    rw (focus_store d items count focus c.self.inside.store c.in-Some.place c.self.invariant at is_open) known

pub invariant_of-self-2 : goal.invariant_of-self-2
invariant_of-self-2 c =
    let items = c.self.inside.nodes.items in
    let d = c.self.inside.declared in
    let count = c.self.inside.opened + 1 in
    let focus = c.self.inside.focus in
    let at : IsPlace items c.in-Some.place focus = rw c.deref.ensures.value at c.in-Some.ensures.found in
    let is_open : (node_at (nodes_over d items) focus).status ≡ Open = rw (← c.self.view_is) at c.requires.open in
    let store = c.self.inside.store in
    let known : AreKnown (length (node_at (nodes_over d items) focus).store) c.args.literals.now = rw (← c.self.view_is) at c.requires.known in
    let wide : AreKnown (length store) c.args.literals.now = rw (focus_store d items count focus store c.in-Some.place c.self.invariant at is_open) known in
    rw (c.in_ok-narrow_at.ensures.nodes, c.in_ok-narrow_at.ensures.store) (narrowed_kept d items count focus store c.in-Some.place c.self.invariant at is_open c.args.literals.now wide)

pub returns-clause-ok : goal.returns-clause-ok
returns-clause-ok c =
    let items = c.self.inside.nodes.items in
    let d = c.self.inside.declared in
    let count = c.self.inside.opened + 1 in
    let focus = c.self.inside.focus in
    let at : IsPlace items c.in-Some.place focus = rw c.deref.ensures.value at c.in-Some.ensures.found in
    let is_open : (node_at (nodes_over d items) focus).status ≡ Open = rw (← c.self.view_is) at c.requires.open in
    rw (c.in_ok-narrow_at.ensures.nodes, ← c.self.view_is, narrowed_is d items count focus c.self.inside.store c.in-Some.place c.self.invariant at is_open c.args.literals.now) refl
