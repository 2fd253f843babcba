use Rattle.std.proofs.Common.{◌≡◌, ◌++◌, map, drop}
use Rattle.sm_clausify.specs.Clauses.{beside}
use Rattle.sm_clausify.proofs.build.add_products.Given as goal

abbrev pub invariant-loop-other : goal.invariant-loop-other
invariant-loop-other l = l.clauses.items ++ map (beside l.first) (drop l.other-index l.others) ≡ l.fn.clauses.items ++ map (beside l.first) l.others
