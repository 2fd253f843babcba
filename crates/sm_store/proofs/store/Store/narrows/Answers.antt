use Rattle.std.proofs.Common.{arith}
use Rattle.std.proofs.lemmas.Int.{ints}
use Rattle.sm_store.proofs.Laying.{narrows_is}
use Rattle.sm_store.proofs.store.Store.narrows.Goals as goal

pub returns-then-leaves : goal.returns-then-leaves
returns-then-leaves c =
    let bounded = c.if-unsigned_abs.false in
    let known = c.len.ensures in
    narrows_is c.args.self.now c.args.literal.now c.domain-domain.result c.changes.result c.domain-domain.ensures (omega (arith, c.if-literal-len.false)) (omega (arith, ints, c.unsigned_abs.ensures.value)) (c.leaves.ensures.0 c.if-leaves.true) c.changes.ensures
