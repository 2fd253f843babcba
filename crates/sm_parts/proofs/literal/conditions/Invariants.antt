use Rattle.std.proofs.Common.{[], ◌∷◌, map, drop}
use Rattle.sm_syntax.specs.Expressions.{literal_of}
use Rattle.sm_meaning.specs.Formulas.{condition_of, condition_tried}
use Rattle.sm_parts.proofs.Eaches.{Left}
use Rattle.sm_parts.proofs.literal.conditions.Given as goal

abbrev pub invariant-loop-other : goal.invariant-loop-other
invariant-loop-other l =
    Left (λ x. condition_tried l.fn.scope x l.fn.cases.tuple) (λ x. condition_of l.fn.scope x l.fn.cases.tuple ∷ []) (map literal_of (l.fn.first ∷ l.fn.more)) l.fn.visited []
    (map literal_of (drop l.other-index l.more)) l.visited l.literals.items
