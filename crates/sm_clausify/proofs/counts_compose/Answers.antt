use Rattle.std.proofs.Common.{sym}
use Rattle.sm_clausify.proofs.Counting.{counts_of-conjunction, counts_of-disjunction, implication_counts, equivalence_counts}
use Rattle.sm_clausify.proofs.counts_compose.Goals as goal

pub returns-clause-all : goal.returns-clause-all
returns-clause-all c = counts_of-conjunction

pub returns-clause-any : goal.returns-clause-any
returns-clause-any c = counts_of-disjunction

pub returns-clause-implies : goal.returns-clause-implies
returns-clause-implies c = λ p q. sym (implication_counts p q)

pub returns-clause-iff : goal.returns-clause-iff
returns-clause-iff c = λ p q. sym (equivalence_counts p q)
