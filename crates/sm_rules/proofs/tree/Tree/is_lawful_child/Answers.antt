use Rattle.std.proofs.Common.{◌≡◌, ap, sym, ◌∙◌}
use Rattle.sm_rules.specs.declared.node.Status.TheVariants.{Open, Half, Split}
use Rattle.sm_rules.specs.Nodes.{KeptNode}
use Rattle.sm_rules.specs.Places.{IsPlace, at_place}
use Rattle.sm_rules.specs.Trees.{node_at}
use Rattle.sm_rules.specs.KeptNodes.{nodes_over, store_or}
use Rattle.sm_rules.proofs.Places.{at_read, node_at_place}
use Rattle.sm_rules.proofs.Children.{no_child_of_none}
use Rattle.sm_rules.proofs.KeptTrees.{status_found, lawful_open, half_known, none_over}
use Rattle.sm_rules.proofs.tree.Tree.is_lawful_child.Goals as goal

pub returns-in_default : goal.returns-in_default
returns-in_default c =
    let items = c.self.inside.nodes.items in
    let none = none_over c.self.inside.declared items c.args.parent (rw c.deref.ensures.value at c.in_default.ensures.none) in
    rw (← c.self.view_is) (λ no. absurd (cc), λ law. absurd (no_child_of_none (nodes_over c.self.inside.declared items) c.args.parent c.args.literal.now none law))

pub returns-in_ok-moved-in-Open : goal.returns-in_ok-moved-in-Open
returns-in_ok-moved-in-Open c =
    let items = c.self.inside.nodes.items in
    let d = c.self.inside.declared in
    let at : IsPlace items c.in-Some.place c.args.parent = rw c.deref.ensures.value at c.in-Some.ensures.found in
    let read = at_read items c.in-Some.place c.index.result.now at.within c.index.ensures in
    let is_open : (at_place items c.in-Some.place).status ≡ Open = ap (λ (n : KeptNode). n.status) read ∙ sym c.status.ensures ∙ c.in-Open.is in
    let is : store_or c.in_ok-moved-in-Open.moved c.self.inside.store ≡ (at_place (nodes_over d items) c.in-Some.place).store = rw c.deref-in-Open.ensures.value at c.in_ok-moved-in-Open.ensures in
    rw (← c.self.view_is, ← lawful_open d items c.in-Some.place c.args.parent c.args.literal.now (store_or c.in_ok-moved-in-Open.moved c.self.inside.store) c.self.invariant.rising at is_open is) c.splits_either.ensures

pub is_complement-requires : goal.is_complement-requires
is_complement-requires c =
    let items = c.self.inside.nodes.items in
    let at : IsPlace items c.in-Some.place c.args.parent = rw c.deref.ensures.value at c.in-Some.ensures.found in
    let read = at_read items c.in-Some.place c.index.result.now at.within c.index.ensures in
    let half : (at_place items c.in-Some.place).status ≡ Half c.in-Half.first = ap (λ (n : KeptNode). n.status) read ∙ sym c.status.ensures ∙ c.in-Half.is in
    (half_known _ items c.args.parent c.in-Half.first c.self.invariant.known (ap (λ (n : KeptNode). n.status) (node_at_place items c.in-Some.place c.args.parent c.self.invariant.rising at) ∙ half)).bounded

pub returns-in-Half : goal.returns-in-Half
returns-in-Half c =
    let items = c.self.inside.nodes.items in
    let at : IsPlace items c.in-Some.place c.args.parent = rw c.deref.ensures.value at c.in-Some.ensures.found in
    let read = at_read items c.in-Some.place c.index.result.now at.within c.index.ensures in
    let status : (node_at (nodes_over c.self.inside.declared items) c.args.parent).status ≡ Half c.in-Half.first = sym (status_found c.self.inside.declared items c.in-Some.place c.args.parent c.self.invariant.rising at) ∙ ap (λ (n : KeptNode). n.status) read ∙ sym c.status.ensures ∙ c.in-Half.is in
    rw (← c.self.view_is, status) c.is_complement.ensures

pub returns-in-Split : goal.returns-in-Split
returns-in-Split c =
    let items = c.self.inside.nodes.items in
    let at : IsPlace items c.in-Some.place c.args.parent = rw c.deref.ensures.value at c.in-Some.ensures.found in
    let read = at_read items c.in-Some.place c.index.result.now at.within c.index.ensures in
    let status : (node_at (nodes_over c.self.inside.declared items) c.args.parent).status ≡ Split c.in-Split.field-0 = sym (status_found c.self.inside.declared items c.in-Some.place c.args.parent c.self.invariant.rising at) ∙ ap (λ (n : KeptNode). n.status) read ∙ sym c.status.ensures ∙ c.in-Split.is in
    rw (← c.self.view_is, status) (λ no. absurd (cc), λ law. absurd law)
