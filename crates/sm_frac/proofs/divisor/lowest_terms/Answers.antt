use Rattle.std.proofs.Common.{ℕ, subst, unsigned_abs}
use Rattle.std.specs.Int.{IsGcd}
use Rattle.std.proofs.lemmas.Int.{to_z-of_z}
use Rattle.sm_frac.proofs.divisor.lowest_terms.Goals as goal

pub lowest_terms_by-requires-clause-enough : goal.lowest_terms_by-requires-clause-enough
lowest_terms_by-requires-clause-enough c =
    let f = c.ranges.n in let g = c.ranges.d in
    let e = simp to_z-of_z at c.unsigned_abs.ensures.value in
    simp to_z-of_z (λ (k : ℕ) (h : IsGcd (unsigned_abs c.args.n) c.unsigned_abs.result k). subst (λ (m : ℕ). IsGcd (unsigned_abs c.args.n) m k) e h)
