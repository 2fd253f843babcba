use Rattle.std.proofs.Common.{length}
use Rattle.sm_syntax.specs.Expressions.{binding_of}
use Rattle.sm_parts.proofs.Loops.{Going}
use Rattle.sm_parts.proofs.part.push_at_tuples.Given as goal

abbrev pub invariant-tuples : goal.invariant-tuples
invariant-tuples g l =
    Going (binding_of l.fn.binders) l.fn.scope l.fn.cases.tuple (g.P.Part.tried l.fn.part l.fn.scope l.fn.node) (g.P.Part.makes l.fn.part l.fn.scope l.fn.node) l.fn.visited l.fn.made.items
    l.tuples l.visited l.made.items

abbrev pub decreases-tuples : goal.decreases-tuples
decreases-tuples g l = length l.tuples.to_come
