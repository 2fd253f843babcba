use Rattle.sm_rules.specs.Nodes.{NodeView}
use Rattle.sm_rules.specs.Trees.{focus_of}
use Rattle.sm_rules.specs.Sound.{IsNodeOf}
use Rattle.sm_rules.proofs.Keeping.{all_at, takes_open}
use Rattle.sm_rules.proofs.log_state.LogState.is_inference.Goals as goal

pub valid-requires : goal.valid-requires
valid-requires c =
    let s = c.args.self.now in
    let node = all_at (λ (n : NodeView). IsNodeOf c.args.flat.now n) s.main.nodes s.main.focus c.requires.of.nodes (takes_open (focus_of s.main).status c.requires.open) in
    rw c.store.ensures (rw (← c.self.view_is) at node.store)
