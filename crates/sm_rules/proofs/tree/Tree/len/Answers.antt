use Rattle.std.proofs.Common.{ap, sym, ◌∙◌, List, length}
use Rattle.sm_rules.specs.Nodes.{KeptNode}
use Rattle.sm_rules.proofs.KeptNodes.{length_of}
use Rattle.sm_rules.proofs.tree.Tree.len.Goals as goal

pub returns : goal.returns
returns c = rw (← c.self.view_is) (ap (λ (ns : List KeptNode). length ns) c.as_slice.ensures.value ∙ sym (length_of _ c.self.inside.nodes.items))
