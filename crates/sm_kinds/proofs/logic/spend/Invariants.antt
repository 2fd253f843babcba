use Rattle.std.proofs.Common.{◌≡◌, ◌+◌, drop}
use Rattle.sm_kinds.specs.Logic.{logic_size}
use Rattle.sm_kinds.proofs.logic.spend.Given as goal

-- what is left, less the size of the clauses to come, is what was there less the size of all
abbrev pub invariant-loop-clause : goal.invariant-loop-clause
invariant-loop-clause l = l.rest + logic_size l.clauses ≡ l.left + logic_size (drop l.clause-index l.clauses)
