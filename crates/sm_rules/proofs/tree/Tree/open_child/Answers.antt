use Rattle.std.proofs.Common.{◌≡◌, ◌+◌, sym}
use Rattle.sm_rules.specs.Nodes.{LawfulChild}
use Rattle.sm_rules.specs.Places.{IsPlace, at_place}
use Rattle.sm_rules.specs.Trees.{node_at}
use Rattle.sm_rules.specs.KeptNodes.{nodes_over, store_or, IsKept}
use Rattle.sm_rules.proofs.Children.{no_child_of_none}
use Rattle.sm_rules.proofs.KeptTrees.{none_over, found_over, ready, opened_is, opened_kept}
use Rattle.sm_rules.proofs.tree.Tree.open_child.Goals as goal

pub unreachable-requires : goal.unreachable-requires
unreachable-requires c =
    let items = c.self.inside.nodes.items in
    let none = none_over c.self.inside.declared items c.args.parent (rw c.deref.ensures.value at c.in_default.ensures.none) in
    no_child_of_none (nodes_over c.self.inside.declared items) c.args.parent c.args.literal.now none (rw (← c.self.view_is) at c.requires.lawful)

pub open_under-requires-clause-takes : goal.open_under-requires-clause-takes
open_under-requires-clause-takes c =
    let items = c.self.inside.nodes.items in
    let d = c.self.inside.declared in
    let at : IsPlace items c.in-Some.place c.args.parent = rw c.deref.ensures.value at c.in-Some.ensures.found in
    let is : store_or c.in_ok-moved.moved c.self.inside.store ≡ (at_place (nodes_over d items) c.in-Some.place).store = rw c.deref-2.ensures.value at c.in_ok-moved.ensures in
    let ready = ready d c.args.flat.now items (c.self.inside.opened + 1) c.self.inside.focus c.self.inside.store c.in-Some.place c.args.parent c.args.literal.now (store_or c.in_ok-moved.moved c.self.inside.store) c.self.invariant at is (rw (← c.self.view_is) at c.requires.nodes) (rw (← c.self.view_is) at c.requires.lawful) in
    ready.0

pub open_under-requires-clause-floors : goal.open_under-requires-clause-floors
open_under-requires-clause-floors c =
    let items = c.self.inside.nodes.items in
    let d = c.self.inside.declared in
    let at : IsPlace items c.in-Some.place c.args.parent = rw c.deref.ensures.value at c.in-Some.ensures.found in
    let is : store_or c.in_ok-moved.moved c.self.inside.store ≡ (at_place (nodes_over d items) c.in-Some.place).store = rw c.deref-2.ensures.value at c.in_ok-moved.ensures in
    let ready = ready d c.args.flat.now items (c.self.inside.opened + 1) c.self.inside.focus c.self.inside.store c.in-Some.place c.args.parent c.args.literal.now (store_or c.in_ok-moved.moved c.self.inside.store) c.self.invariant at is (rw (← c.self.view_is) at c.requires.nodes) (rw (← c.self.view_is) at c.requires.lawful) in
    ready.1

pub open_under-requires-clause-of : goal.open_under-requires-clause-of
open_under-requires-clause-of c =
    let items = c.self.inside.nodes.items in
    let d = c.self.inside.declared in
    let at : IsPlace items c.in-Some.place c.args.parent = rw c.deref.ensures.value at c.in-Some.ensures.found in
    let is : store_or c.in_ok-moved.moved c.self.inside.store ≡ (at_place (nodes_over d items) c.in-Some.place).store = rw c.deref-2.ensures.value at c.in_ok-moved.ensures in
    let ready = ready d c.args.flat.now items (c.self.inside.opened + 1) c.self.inside.focus c.self.inside.store c.in-Some.place c.args.parent c.args.literal.now (store_or c.in_ok-moved.moved c.self.inside.store) c.self.invariant at is (rw (← c.self.view_is) at c.requires.nodes) (rw (← c.self.view_is) at c.requires.lawful) in
    ready.2

pub open_under-requires-clause-known : goal.open_under-requires-clause-known
open_under-requires-clause-known c =
    let items = c.self.inside.nodes.items in
    let d = c.self.inside.declared in
    let at : IsPlace items c.in-Some.place c.args.parent = rw c.deref.ensures.value at c.in-Some.ensures.found in
    let is : store_or c.in_ok-moved.moved c.self.inside.store ≡ (at_place (nodes_over d items) c.in-Some.place).store = rw c.deref-2.ensures.value at c.in_ok-moved.ensures in
    let ready = ready d c.args.flat.now items (c.self.inside.opened + 1) c.self.inside.focus c.self.inside.store c.in-Some.place c.args.parent c.args.literal.now (store_or c.in_ok-moved.moved c.self.inside.store) c.self.invariant at is (rw (← c.self.view_is) at c.requires.nodes) (rw (← c.self.view_is) at c.requires.lawful) in
    ready.3

pub invariant_of-self-2 : goal.invariant_of-self-2
invariant_of-self-2 c =
    let items = c.self.inside.nodes.items in
    let d = c.self.inside.declared in
    let at : IsPlace items c.in-Some.place c.args.parent = rw c.deref.ensures.value at c.in-Some.ensures.found in
    let is : store_or c.in_ok-moved.moved c.self.inside.store ≡ (at_place (nodes_over d items) c.in-Some.place).store = rw c.deref-2.ensures.value at c.in_ok-moved.ensures in
    let next : c.args.number ≡ c.self.inside.opened + 1 = rw (← c.self.view_is) at c.requires.next in
    let kept : IsKept d items c.args.number c.self.inside.focus c.self.inside.store = rw next c.self.invariant in
    let store = store_or c.in_ok-moved.moved c.self.inside.store in
    let same : store ≡ (node_at (nodes_over d items) c.args.parent).store = rw (found_over d items c.in-Some.place c.args.parent c.self.invariant.rising at) is in
    let law : LawfulChild (node_at (nodes_over d items) c.args.parent).store (node_at (nodes_over d items) c.args.parent).status c.args.literal.now = rw (← c.self.view_is) at c.requires.lawful in
    rw (c.in_ok-open_under.ensures.nodes, c.in_ok-open_under.ensures.store) (opened_kept d c.args.flat.now items c.in-Some.place c.args.parent c.args.number c.self.inside.focus c.args.literal.now c.self.inside.store store kept at same (rw same law))

pub returns-clause-ok : goal.returns-clause-ok
returns-clause-ok c =
    let items = c.self.inside.nodes.items in
    let d = c.self.inside.declared in
    let at : IsPlace items c.in-Some.place c.args.parent = rw c.deref.ensures.value at c.in-Some.ensures.found in
    let is : store_or c.in_ok-moved.moved c.self.inside.store ≡ (at_place (nodes_over d items) c.in-Some.place).store = rw c.deref-2.ensures.value at c.in_ok-moved.ensures in
    let next : c.args.number ≡ c.self.inside.opened + 1 = rw (← c.self.view_is) at c.requires.next in
    let kept : IsKept d items c.args.number c.self.inside.focus c.self.inside.store = rw next c.self.invariant in
    let store = store_or c.in_ok-moved.moved c.self.inside.store in
    let same : store ≡ (node_at (nodes_over d items) c.args.parent).store = rw (found_over d items c.in-Some.place c.args.parent c.self.invariant.rising at) is in
    let opened = opened_is d c.args.flat.now items c.in-Some.place c.args.parent c.args.number c.self.inside.focus c.args.literal.now c.self.inside.store store kept at same in
    rw (c.in_ok-open_under.ensures.nodes, ← c.self.view_is, ← next) (sym opened)
