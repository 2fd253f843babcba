use Rattle.std.proofs.Common.{◌≡◌, ap, sym, ◌∙◌}
use Rattle.sm_rules.specs.Nodes.{KeptNode}
use Rattle.sm_rules.specs.Places.{at_place}
use Rattle.sm_rules.proofs.Places.{at_read}
use Rattle.sm_rules.proofs.KeptTrees.{held_place}
use Rattle.sm_rules.proofs.path.moved_store.Goals as goal

pub returns-then-number-focus : goal.returns-then-number-focus
returns-then-number-focus c =
    let ns = c.args.nodes.now in
    let read = at_read ns c.args.place c.index-nodes-place.result c.requires.place c.index-nodes-place.is in
    let number : (at_place ns c.args.place).number ≡ c.args.focus = ap (λ (n : KeptNode). n.number) read ∙ sym c.number.ensures ∙ c.if-number-focus.true in
    held_place c.args.declared.now ns c.args.focus c.args.store.now c.args.place c.requires.held c.requires.place number
