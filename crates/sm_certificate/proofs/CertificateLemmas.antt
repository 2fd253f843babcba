-- What a certificate proves, and the steps that pass.
use Rattle.std.proofs.Common.{◌≡◌, ℕ, sym, subst, map}
use Rattle.sm_frac.specs.Rational.{ℚ, ◌*ℚ◌, ◌≤ℚ◌, zero_ℚ}
use Rattle.sm_frac.specs.Frac.{value_of}
use Rattle.sm_frac.specs.Passes.{Passes}
use Rattle.sm_frac.specs.declared.fraction.Frac.{Frac}
use Rattle.sm_frac.specs.declared.operation.Op.{Op}
use Rattle.sm_frac.specs.declared.operation.RangePassed.{RangePassed}
use Rattle.sm_frac.proofs.Order.{lt_not_le}
use Rattle.sm_frac.proofs.RationalRing.{ring}
use Rattle.sm_certificate.specs.declared.program.Program.{Program}
use Rattle.sm_certificate.specs.declared.proposal.Proposal.{Proposal}
use Rattle.sm_certificate.specs.declared.proposal.Proposal.TheVariants.{Optimal, Infeasible}
use Rattle.sm_certificate.specs.Totals.{total}
use Rattle.sm_certificate.specs.Program.{column_count, cost, cost_of, bound_of}
use Rattle.sm_certificate.specs.Certificate.{IsCertificate, IsProven}
use Rattle.sm_certificate.specs.Checking.{PassesAt}
use Rattle.sm_certificate.proofs.Duality.{bound_least}
use Rattle.sm_certificate.proofs.Totals.{total-zero}

-- ---- weak duality
zero_target : (n : ℕ) (x : ℕ → ℚ) → total n (λ j. zero_ℚ *ℚ x j) ≡ zero_ℚ
zero_target n x = total-zero n (λ j. zero_ℚ *ℚ x j) (λ j h. zero_times (x j))
  where
    zero_times : (y : ℚ) → zero_ℚ *ℚ y ≡ zero_ℚ
    zero_times y = simp ring

pub certificate_proves : (p : Program) (q : Proposal) → IsCertificate p q → IsProven p q
certificate_proves p (Optimal denominator point multipliers) h = λ x s. subst (λ (z : ℚ). z ≤ℚ cost_of p x) (sym h.bound) (bound_least p (cost p) (map value_of multipliers.items) x h.multipliers_lawful s)
certificate_proves p (Infeasible multipliers) h = λ x s.
    lt_not_le zero_ℚ (bound_of p (λ _. zero_ℚ) (map value_of multipliers.items)) h.positive
    (subst (λ (z : ℚ). bound_of p (λ _. zero_ℚ) (map value_of multipliers.items) ≤ℚ z) (zero_target (column_count p) x) (bound_least p (λ _. zero_ℚ) (map value_of multipliers.items) x h.multipliers_lawful s))

-- ---- steps that pass
pub passes_at : (S : Op → ℚ → ℚ → Type 0) (op : Op) (f h : Frac) (e : RangePassed) → e ≡ record { op = op; left = f; right = h } → Passes op f h → S op (value_of f) (value_of h) → PassesAt S e.op e.left e.right
passes_at S op f h e is passes step = subst (λ (r : RangePassed). PassesAt S r.op r.left r.right) (sym is) (record { step = step; passes = passes })
