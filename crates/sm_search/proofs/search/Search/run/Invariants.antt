use Rattle.std.proofs.Common.{Ok}
use Rattle.sm_search.specs.Fits.{IsRunning}
use Rattle.sm_search.specs.Turns.{Moves}
use Rattle.sm_search.specs.Weights.{weight}
use Rattle.sm_search.proofs.search.Search.run.Given as goal

abbrev pub invariant-loop : goal.invariant-loop
invariant-loop g l = record {
  going : IsRunning l.self.state;
  moved : Moves l.flat (Ok (tt {0})) l.fn.self l.self (g.S.Sink.written l.fn.sink) (g.S.Sink.written l.sink) (g.S.Sink.faults l.fn.sink) (g.S.Sink.faults l.sink);
}

abbrev pub decreases-loop : goal.decreases-loop
decreases-loop g l = weight l.self.state
