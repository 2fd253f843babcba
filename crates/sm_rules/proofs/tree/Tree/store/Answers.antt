use Rattle.std.proofs.Common.{◌≡◌}
use Rattle.sm_rules.specs.declared.node.Status.TheVariants.{Open}
use Rattle.sm_rules.specs.Trees.{node_at}
use Rattle.sm_rules.specs.KeptNodes.{nodes_over}
use Rattle.sm_rules.proofs.KeptTrees.{held_at, open_takes}
use Rattle.sm_rules.proofs.tree.Tree.store.Goals as goal

pub returns : goal.returns
returns c =
    let vs = nodes_over c.self.inside.declared c.self.inside.nodes.items in
    let is_open : (node_at vs c.self.inside.focus).status ≡ Open = rw (← c.self.view_is) at c.requires in
    rw (← c.self.view_is) (held_at vs c.self.inside.focus c.self.inside.store c.self.invariant.held (open_takes (node_at vs c.self.inside.focus).status is_open))
