use Rattle.std.proofs.Common.{subst, sym, List, ℕ, ℤ, ◌≢◌}
use Rattle.std.specs.Prelude.{All, AllPairs}
use Rattle.sm_certificate.specs.Conditions.{IsTerm}
use Rattle.sm_certificate.proofs.conditions.is_row.Goals as goal

pub returns-else-are_terms : goal.returns-else-are_terms
returns-else-are_terms c = (λ t. absurd (cc), λ r. c.are_terms.ensures.1 (subst (λ (ts : List (ℕ × ℤ)). All (IsTerm c.args.columns) ts × AllPairs (λ s t. s.0 ≢ t.0) ts) (sym c.as_slice.ensures) (r.terms, r.different)))
