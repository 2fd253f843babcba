use Rattle.std.proofs.Common.{rules}
use Rattle.sm_search.proofs.Moving.{stays_stopped, moves_more}
use Rattle.sm_search.proofs.search.Search.close_leaf.Goals as goal

pub returns-in_err-point-clause-moved : goal.returns-in_err-point-clause-moved
returns-in_err-point-clause-moved g c = stays_stopped c.args.flat.now c.from_residual.result c.args.self.now _ _ (search rules) c.requires.fit

pub returns-clause-moved : goal.returns-clause-moved
returns-clause-moved g c = moves_more c.args.flat.now _ c.close_by_floor.result c.args.self.now c.write_better.new.self c.close_by_floor.new.self _ _ _ _ _ _ c.in_ok-write_better-in-None.ensures.moved c.close_by_floor.ensures.moved
