use Rattle.sm_search.proofs.Lines.{goes_on_violated}
use Rattle.sm_search.proofs.Moving.{on_more}
use Rattle.sm_search.proofs.search.Search.close_violated.Goals as goal

pub returns-clause-on : goal.returns-clause-on
returns-clause-on g c = on_more c.write.result _ _ (λ e. rw e (goes_on_violated c.args.flat.now c.args.self.now.state c.args.k c.requires.at)) c.write.ensures.state
