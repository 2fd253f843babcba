use Rattle.std.proofs.Common.{length}
use Rattle.sm_parts.proofs.Loops.{Seeking}
use Rattle.sm_parts.proofs.tuples.Tuples.next.Given as goal

abbrev pub invariant-tuples : goal.invariant-tuples
invariant-tuples l = Seeking l.fn.scope l.fn.self l.fn.visited l.self-inside.tests.now l.self-inside.cases.to_come l.visited

abbrev pub decreases-tuples : goal.decreases-tuples
decreases-tuples l = length l.self-inside.cases.to_come
