use Rattle.std.proofs.Common.{arith}
use Rattle.std.proofs.lemmas.Int.{ints}
use Rattle.std.proofs.lemmas.Option.{IfSome_then}
use Rattle.sm_kinds.proofs.Packs.{at_costs}
use Rattle.sm_kinds.proofs.packing.without_cost.Goals as goal

pub returns-clause-value : goal.returns-clause-value
returns-clause-value g c = IfSome_then c.without_chosen.result c.without_chosen.ensures.value (λ r k. at_costs (g.V.Values.point c.args.a.now) c.args.item.now.group c.args.item.now.costs c.as_slice.result.now c.args.total _ c.as_slice.ensures (omega (arith, ints)) r k)
