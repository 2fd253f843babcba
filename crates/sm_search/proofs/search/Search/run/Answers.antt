use Rattle.std.proofs.Common.{rules}
use Rattle.sm_search.specs.Turns.{GoesOn}
use Rattle.sm_search.proofs.Moving.{moves_more, moved_on, moved_off}
use Rattle.sm_search.proofs.search.Search.run.Goals as goal

pub returns-in_err-turn-clause-moved : goal.returns-in_err-turn-clause-moved
returns-in_err-turn-clause-moved g c = moved_off c.args.flat.now _ c.from_residual.result c.args.self.now c.turn.new.self _ _ _ _ (search rules) (moves_more c.args.flat.now _ _ c.args.self.now c.loop.self c.turn.new.self _ _ _ _ _ _ c.loop.invariant.moved c.in_err-turn.ensures.moved)

pub loop-preserved : goal.loop-preserved
loop-preserved g c =
    let on : GoesOn c.loop.self.state c.turn.new.self.state = rw c.in-Again.is at c.in_ok-turn.ensures.turned in
    record {
      going = on.going;
      moved = moved_on c.args.flat.now _ _ c.args.self.now c.turn.new.self _ _ _ _ (moves_more c.args.flat.now _ _ c.args.self.now c.loop.self c.turn.new.self _ _ _ _ _ _ c.loop.invariant.moved c.in_ok-turn.ensures.moved);
    }

pub returns-in-Ended-clause-moved : goal.returns-in-Ended-clause-moved
returns-in-Ended-clause-moved g c = moved_on c.args.flat.now _ _ c.args.self.now c.turn.new.self _ _ _ _ (moves_more c.args.flat.now _ _ c.args.self.now c.loop.self c.turn.new.self _ _ _ _ _ _ c.loop.invariant.moved c.in_ok-turn.ensures.moved)
