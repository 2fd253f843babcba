use Rattle.std.proofs.Common.{◌≡◌, ◌++◌}
use Rattle.sm_clausify.specs.Clauses.{join}
use Rattle.sm_clausify.proofs.build.product.Given as goal

-- the products so far, and those of the clauses to come
abbrev pub invariant-loop-first : goal.invariant-loop-first
invariant-loop-first l = l.clauses.items ++ join l.first-iterator.rest.items l.others ≡ join l.fn.firsts.items l.others
