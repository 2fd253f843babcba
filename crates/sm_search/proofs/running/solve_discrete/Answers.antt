use Rattle.sm_search.specs.Went.{begin}
use Rattle.sm_search.proofs.Goings.{stopped_none}
use Rattle.sm_search.proofs.Endings.{solved_by}
use Rattle.sm_search.proofs.running.solve_discrete.Goals as goal

pub returns-in-Err-clause-stopped : goal.returns-in-Err-clause-stopped
returns-in-Err-clause-stopped g c = stopped_none c.args.flat.now (begin c.args.flat.now) _ _ _ c.in-Err.refusal c.in-Err.ensures.memory

pub returns-in-Ok-run-clause-solved : goal.returns-in-Ok-run-clause-solved
returns-in-Ok-run-clause-solved g c = solved_by c.args.flat.now c.in-Ok.search c.begin.new.self c.run.new.self _ _ _ c.into_solved.result c.in-Ok.ensures.begin c.in_default.ensures.moved.went c.in-Ok-run.ensures.moved.went c.in-Ok-run.ensures.moved.fit c.in-Ok-run.ensures.ended c.into_solved.ensures.verdict c.into_solved.ensures.best
