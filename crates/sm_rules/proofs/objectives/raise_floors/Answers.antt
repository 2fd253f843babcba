use Rattle.std.proofs.Common.{◌∙◌}
use Rattle.std.proofs.lemmas.List.{length-set}
use Rattle.sm_rules.proofs.Sums.{raise_step}
use Rattle.sm_rules.proofs.objectives.raise_floors.Goals as goal

pub loop-level-preserved : goal.loop-level-preserved
loop-level-preserved c = record {
  length = length-set c.loop-level.floors.items c.loop-level.level c.greater.result ∙ c.loop-level.invariant.length;
  floors = raise_step c.args.store.now c.args.floors.now.items c.loop-level.floors.items c.args.goals.now c.loop-level.level c.greater.result c.index.result.now c.least_floor-least.result c.index-goals-level.result c.requires.each c.loop-level-test.true c.loop-level.invariant.floors c.index.ensures c.index-goals-level.is c.least_floor-least.ensures c.greater.ensures;
}
