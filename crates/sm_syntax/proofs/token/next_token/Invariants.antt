use Rattle.std.proofs.Common.{◌≡◌, length}
use Rattle.sm_syntax.specs.Tokens.{tokens_from}
use Rattle.sm_syntax.proofs.token.next_token.Given as goal

abbrev pub invariant-loop-rest : goal.invariant-loop-rest
invariant-loop-rest l = tokens_from l.rest l.here ≡ tokens_from l.fn.text l.fn.place

abbrev pub decreases-loop-rest : goal.decreases-loop-rest
decreases-loop-rest l = length l.rest
