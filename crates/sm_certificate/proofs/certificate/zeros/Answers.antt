use Rattle.sm_certificate.proofs.CombinationLemmas.{zeros_at}
use Rattle.sm_certificate.proofs.certificate.zeros.Goals as goal

pub returns-clause-zero : goal.returns-clause-zero
returns-clause-zero c = zeros_at c.in_ok-zeros.zeros.items c.len.result c.fraction_of.result (c.in_ok-zeros.ensures.items_if_clones_equal (λ y e. e)) c.fraction_of.ensures
