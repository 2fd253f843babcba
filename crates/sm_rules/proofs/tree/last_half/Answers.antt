use Rattle.std.proofs.Common.{◌≡◌, ◌-◌, ◌<◌, ℕ, length, arith, ap, sym, refl, ◌∙◌}
use Rattle.sm_rules.specs.declared.node.Status.TheVariants.{Half}
use Rattle.sm_rules.specs.Nodes.{KeptNode}
use Rattle.sm_rules.specs.Places.{at_place}
use Rattle.sm_rules.proofs.Places.{at_read, node_at_place}
use Rattle.sm_rules.proofs.Children.{last_half_is, no_half_left}
use Rattle.sm_rules.proofs.tree.last_half.Goals as goal

pub returns-in-Half-clause-some : goal.returns-in-Half-clause-some
returns-in-Half-clause-some c =
    let ns = c.args.nodes.now in
    let node = c.index-nodes-rest.result in
    let i : ℕ = c.loop-rest.rest - 1 in
    let lt : i < length ns = omega arith in
    let read : at_place ns i ≡ node = at_read ns i node lt c.index-nodes-rest.is in
    let half : (at_place ns i).status ≡ Half c.in-Half.first = ap (λ (n : KeptNode). n.status) read ∙ sym c.status.ensures ∙ c.in-Half.is in
    let number = c.number.ensures ∙ sym (ap (λ (n : KeptNode). n.number) read) in
    let at = node_at_place ns i c.number.result c.requires (record { within = lt; here = sym number }) in (
      last_half_is ns i c.number.result _ c.in-Half.first c.requires lt number half refl (λ k le within. c.loop-rest.invariant.none k (omega arith) within),
      ap (λ (n : KeptNode). n.status) at ∙ half,
    )

pub returns-clause-none : goal.returns-clause-none
returns-clause-none c = no_half_left c.args.nodes.now c.loop-rest.rest (omega arith) c.loop-rest.invariant.none
