use Rattle.sm_drafts.proofs.Growing.{begins, named, declared}
use Rattle.sm_drafts.proofs.totals_laws.Goals as goal

pub returns-clause-begins : goal.returns-clause-begins
returns-clause-begins c = begins

pub returns-clause-named : goal.returns-clause-named
returns-clause-named c = named

pub returns-clause-declared : goal.returns-clause-declared
returns-clause-declared c = declared
