use Rattle.sm_store.proofs.Declared.{IsPutting}
use Rattle.sm_store.proofs.build.put_all.Given as goal

abbrev pub invariant-loop-value : goal.invariant-loop-value
invariant-loop-value l = IsPutting l.base l.values l.initial.words l.words l.value-index
