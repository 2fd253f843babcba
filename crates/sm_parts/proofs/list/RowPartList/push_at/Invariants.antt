use Rattle.std.proofs.Common.{[], ◌∷◌, map, drop}
use Rattle.sm_syntax.specs.Expressions.{expression_of}
use Rattle.sm_parts.proofs.Eaches.{Left}
use Rattle.sm_parts.proofs.list.RowPartList.push_at.Given as goal

abbrev pub invariant-loop-more : goal.invariant-loop-more
invariant-loop-more g l =
    Left (λ e. g.R.Role.tried l.fn.scope e l.fn.cases.tuple) (λ e. g.R.Role.meant l.fn.scope e l.fn.cases.tuple ∷ []) (map expression_of (l.fn.node.first ∷ l.fn.node.more)) l.fn.visited l.fn.made.items
    (map expression_of (drop l.more-index l.more-items)) l.visited l.made.items
