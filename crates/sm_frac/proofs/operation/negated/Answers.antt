use Rattle.std.proofs.Common.{arith}
use Rattle.std.proofs.lemmas.Int.{ints}
use Rattle.sm_frac.proofs.OperationLemmas.{lowest_turned}
use Rattle.sm_frac.proofs.operation.negated.Goals as goal

pub make-requires-clause-lowest : goal.make-requires-clause-lowest
make-requires-clause-lowest c = lowest_turned c.args.f.n c.args.f.d _ _ (omega (arith, ints)) (omega (arith, ints)) c.args.f.lowest
