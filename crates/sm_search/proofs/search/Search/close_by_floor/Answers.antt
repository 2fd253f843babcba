use Rattle.sm_search.proofs.Lines.{goes_on_close}
use Rattle.sm_search.proofs.Moving.{on_more}
use Rattle.sm_search.proofs.search.Search.close_by_floor.Goals as goal

pub returns-clause-on : goal.returns-clause-on
returns-clause-on g c = on_more c.write.result _ _ (λ e. rw e (goes_on_close c.args.flat.now c.args.self.now.state c.requires.at)) c.write.ensures.state
