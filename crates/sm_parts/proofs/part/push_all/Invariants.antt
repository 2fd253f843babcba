use Rattle.std.proofs.Common.{drop}
use Rattle.std.specs.List.{flat_map}
use Rattle.sm_meaning.specs.Cases.{over_cases, over_cases_tried}
use Rattle.sm_parts.proofs.Eaches.{Left}
use Rattle.sm_parts.proofs.part.push_all.Given as goal

abbrev pub invariant-loop-node : goal.invariant-loop-node
invariant-loop-node g l =
    Left (λ n. over_cases_tried (g.P.Part.binding n) l.fn.scope l.fn.cases.tuple (g.P.Part.tried l.fn.part l.fn.scope n))
    (λ n. flat_map (g.P.Part.makes l.fn.part l.fn.scope n) (over_cases (g.P.Part.binding n) l.fn.scope.names l.fn.cases.tuple)) l.fn.nodes l.fn.visited l.fn.made.items
    (drop l.node-index l.nodes) l.visited l.made.items
