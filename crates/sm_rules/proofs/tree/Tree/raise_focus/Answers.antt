use Rattle.std.proofs.Common.{◌≡◌, ◌+◌, refl}
use Rattle.sm_rules.specs.declared.node.Status.TheVariants.{Open}
use Rattle.sm_rules.specs.Places.{IsPlace}
use Rattle.sm_rules.specs.Trees.{node_at}
use Rattle.sm_rules.specs.KeptNodes.{nodes_over}
use Rattle.sm_rules.proofs.Children.{not_open_none}
use Rattle.sm_rules.proofs.KeptTrees.{none_over}
use Rattle.sm_rules.proofs.FocusChanges.{focus_ready, raised_is, raised_kept}
use Rattle.sm_rules.proofs.tree.Tree.raise_focus.Goals as goal

pub raise_at-requires-clause-of : goal.raise_at-requires-clause-of
raise_at-requires-clause-of c =
    let items = c.self.inside.nodes.items in
    let d = c.self.inside.declared in
    let count = c.self.inside.opened + 1 in
    let focus = c.self.inside.focus in
    let at : IsPlace items c.in-Some.place focus = rw c.deref.ensures.value at c.in-Some.ensures.found in
    let is_open : (node_at (nodes_over d items) focus).status ≡ Open = rw (← c.self.view_is) at c.requires.open in
    (focus_ready d items count focus c.self.inside.store c.in-Some.place c.self.invariant at is_open c.args.flat.now (rw (← c.self.view_is) at c.requires.nodes)).0

pub raise_at-requires-clause-floors : goal.raise_at-requires-clause-floors
raise_at-requires-clause-floors c =
    let items = c.self.inside.nodes.items in
    let d = c.self.inside.declared in
    let count = c.self.inside.opened + 1 in
    let focus = c.self.inside.focus in
    let at : IsPlace items c.in-Some.place focus = rw c.deref.ensures.value at c.in-Some.ensures.found in
    let is_open : (node_at (nodes_over d items) focus).status ≡ Open = rw (← c.self.view_is) at c.requires.open in
    (focus_ready d items count focus c.self.inside.store c.in-Some.place c.self.invariant at is_open c.args.flat.now (rw (← c.self.view_is) at c.requires.nodes)).1

pub invariant_of-self : goal.invariant_of-self
invariant_of-self c =
    let items = c.self.inside.nodes.items in
    let d = c.self.inside.declared in
    let count = c.self.inside.opened + 1 in
    let focus = c.self.inside.focus in
    let at : IsPlace items c.in-Some.place focus = rw c.deref.ensures.value at c.in-Some.ensures.found in
    let is_open : (node_at (nodes_over d items) focus).status ≡ Open = rw (← c.self.view_is) at c.requires.open in
    rw c.raise_at.ensures (raised_kept d items count focus c.self.inside.store c.in-Some.place c.self.invariant at is_open c.args.flat.now)

pub returns-in-Some : goal.returns-in-Some
returns-in-Some c =
    let items = c.self.inside.nodes.items in
    let d = c.self.inside.declared in
    let count = c.self.inside.opened + 1 in
    let focus = c.self.inside.focus in
    let at : IsPlace items c.in-Some.place focus = rw c.deref.ensures.value at c.in-Some.ensures.found in
    let is_open : (node_at (nodes_over d items) focus).status ≡ Open = rw (← c.self.view_is) at c.requires.open in
    rw (c.raise_at.ensures, ← c.self.view_is, raised_is d items count focus c.self.inside.store c.in-Some.place c.self.invariant at is_open c.args.flat.now) refl

pub returns-in_default : goal.returns-in_default
returns-in_default c =
    let items = c.self.inside.nodes.items in
    let d = c.self.inside.declared in
    let none = none_over d items c.self.inside.focus (rw c.deref.ensures.value at c.in_default.ensures.none) in
    let is_open : (node_at (nodes_over d items) c.self.inside.focus).status ≡ Open = rw (← c.self.view_is) at c.requires.open in
    absurd (not_open_none (nodes_over d items) c.self.inside.focus none is_open)
