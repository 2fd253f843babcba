use Rattle.sm_rules.proofs.Pruning.{refutes_first, refutes_step}
use Rattle.sm_rules.proofs.tree.drop_refuted.Goals as goal

pub loop-refuted-init : goal.loop-refuted-init
loop-refuted-init c = record {
  rising = c.requires.rising;
  refutes = refutes_first c.args.nodes.now.items c.args.place c.requires.place c.requires.rising c.requires.kept;
}

pub loop-refuted-preserved : goal.loop-refuted-preserved
loop-refuted-preserved c =
    let step = refutes_step _ _ _ _ _ c.remove.result _ _ c.loop-refuted.invariant.rising c.loop-refuted.invariant.refutes c.in-Some.is c.remove.ensures.items c.remove.ensures.value c.parent-parent.ensures (rw c.deref.ensures.value at c.done_place-refuted.ensures.found) (rw c.deref.ensures.value at c.done_place-refuted.ensures.none) in
    record { rising = step.0; refutes = step.1 }
