use Rattle.std.proofs.Common.{arith, refl}
use Rattle.std.specs.Prelude.{[]}
use Rattle.sm_kinds.specs.Alldiff.{Differ}
use Rattle.sm_kinds.proofs.Pairs.{pairs_at}
use Rattle.sm_kinds.proofs.assign.all_differ.Goals as goal

pub returns : goal.returns
returns g c =
    let same = pairs_at (λ p q. Differ (g.V.Values.point c.args.a.now) p.0 q.0) c.args.picks.now (0, []) in
    ((λ _. same.0 (λ j k lt within. c.loop-i.invariant j k (omega (arith, lt, within, c.loop-i-test.false)) lt within)), (λ _. refl))
