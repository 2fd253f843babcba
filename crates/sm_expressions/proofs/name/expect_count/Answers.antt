use Rattle.sm_expressions.proofs.Trying.{count_stops, count_goes}
use Rattle.sm_expressions.proofs.name.expect_count.Goals as goal

pub returns-then-parts-count-clause-tried : goal.returns-then-parts-count-clause-tried
returns-then-parts-count-clause-tried c = λ visited. count_stops c.at.result c.args.count visited c.args.place c.args.parts.now c.at.ensures c.if-parts-count.true

pub returns-clause-tried : goal.returns-clause-tried
returns-clause-tried c = λ visited. (count_goes c.args.count visited c.args.place c.args.parts.now c.if-parts-count.false, c.if-parts-count.false)
