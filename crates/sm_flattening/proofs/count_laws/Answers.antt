use Rattle.sm_flattening.proofs.Counts.{kind_same, terms_count, size_same, real_terms}
use Rattle.sm_flattening.proofs.Wider.{named_counts, declared_counts}
use Rattle.sm_flattening.proofs.count_laws.Goals as goal

pub returns-clause-kind : goal.returns-clause-kind
returns-clause-kind c = kind_same

pub returns-clause-terms : goal.returns-clause-terms
returns-clause-terms c = terms_count

pub returns-clause-size : goal.returns-clause-size
returns-clause-size c = size_same

pub returns-clause-reals : goal.returns-clause-reals
returns-clause-reals c = λ vars s n g kinds. real_terms vars s kinds n g

pub returns-clause-named : goal.returns-clause-named
returns-clause-named c = named_counts

pub returns-clause-declared : goal.returns-clause-declared
returns-clause-declared c = declared_counts
