use Rattle.sm_store.proofs.Cells.{least_passing, greatest_passing}
use Rattle.sm_store.proofs.set.summary_left.Goals as goal

pub returns-clause-least : goal.returns-clause-least
returns-clause-least c = least_passing c.args.literal.now c.args.base.now c.args.part.now c.summary_passing.result c.requires c.summary_passing.ensures

pub returns-clause-greatest : goal.returns-clause-greatest
returns-clause-greatest c = greatest_passing c.args.literal.now c.args.base.now c.args.part.now c.summary_passing.result c.requires c.summary_passing.ensures
