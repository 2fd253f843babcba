use Rattle.sm_store.proofs.Cells.{words_shown}
use Rattle.sm_store.proofs.domain.Domain.words.Goals as goal

pub returns-in-Set-clause-words : goal.returns-in-Set-clause-words
returns-in-Set-clause-words c =
    let part = rw c.in-Set.is at c.self.invariant in
    rw (← c.self.view_is, c.in-Set.is, c.words_in.ensures) (words_shown c.self.inside.base c.self.inside.part.now part)
