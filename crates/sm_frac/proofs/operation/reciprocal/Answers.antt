use Rattle.std.proofs.Common.{arith, sym, ◌∙◌, ◌≡◌}
use Rattle.std.specs.Prelude.{neg_ℤ}
use Rattle.std.proofs.lemmas.Int.{ints}
use Rattle.sm_frac.proofs.OperationLemmas.{lowest_swapped, lowest_swapped_turned, signed_below}
use Rattle.sm_frac.proofs.operation.reciprocal.Goals as goal

pub make-requires-clause-lowest : goal.make-requires-clause-lowest
make-requires-clause-lowest c = lowest_swapped c.args.f.n c.args.f.d _ _ (omega (arith, ints)) (omega (arith, ints)) c.args.f.lowest

pub make-requires-else-f-gt0-clause-lowest : goal.make-requires-else-f-gt0-clause-lowest
make-requires-else-f-gt0-clause-lowest c = lowest_swapped_turned c.args.f.n c.args.f.d _ _ (omega (arith, ints)) (omega (arith, ints)) c.args.f.lowest

pub returns-else-f-gt0 : goal.returns-else-f-gt0
returns-else-f-gt0 c =
    let s = signed_below c.args.f.n c.args.f.d c.requires (omega (arith, ints)) in
    let n : c.make-else-f-gt0.result.n ≡ neg_ℤ c.args.f.d = omega (arith, ints) in
    let d : c.make-else-f-gt0.result.d ≡ neg_ℤ c.args.f.n = omega (arith, ints) in
    (n ∙ sym s.0, d ∙ sym s.1)
