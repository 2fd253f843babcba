use Rattle.std.proofs.Common.{vec_len}
use Rattle.sm_rules.specs.Places.{AreRising, at_place}
use Rattle.sm_rules.specs.Trees.{pruned, without_node}
use Rattle.sm_rules.proofs.Pruning.{Refutes}
use Rattle.sm_rules.proofs.tree.drop_refuted.Given as goal

abbrev pub invariant-loop-refuted : goal.invariant-loop-refuted
invariant-loop-refuted l = record {
  rising : AreRising l.nodes.items;
  refutes : Refutes (pruned (without_node l.fn.nodes.items (at_place l.fn.nodes.items l.fn.place).number)) l.nodes.items l.refuted;
}

abbrev pub decreases-loop-refuted : goal.decreases-loop-refuted
decreases-loop-refuted l = vec_len l.nodes
