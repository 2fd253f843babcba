-- Proposed answers, and when their own numbers show that they are right.
use Rattle.std.specs.Prelude.{◌≡◌, ℕ, ℤ, pos, length, map, List, ◌<ℤ◌}
use Rattle.sm_frac.specs.Rational.{ℚ, ◌≤ℚ◌, ◌<ℚ◌, zero_ℚ}
use Rattle.sm_frac.specs.Frac.{value_of}
use Rattle.sm_certificate.specs.declared.program.Program.{Program}
use Rattle.sm_certificate.specs.declared.proposal.Proposal.{Proposal}
use Rattle.sm_certificate.specs.declared.proposal.Proposal.TheVariants.{Optimal, Infeasible}
use Rattle.sm_certificate.specs.Program.{column_count, cost, cost_of, bound_of, Satisfies, AreMultipliers, point_value}

-- The point satisfies the program, and costs what the multipliers give as a bound. A constant of the cost would stand on both sides.
pub record IsOptimalPair (p : Program) (denominator : ℤ) (point : List ℤ) (multipliers : List ℚ) : Type 0 where
  pub above : pos 0 <ℤ denominator
  pub long : length point ≡ column_count p
  pub satisfies : Satisfies p (point_value point denominator)
  pub multipliers_lawful : AreMultipliers p.rows multipliers
  pub bound : cost_of p (point_value point denominator) ≡ bound_of p (cost p) multipliers

-- The multipliers give a bound above zero for the target zero.
pub record ShowsNoPoint (p : Program) (multipliers : List ℚ) : Type 0 where
  pub multipliers_lawful : AreMultipliers p.rows multipliers
  pub positive : zero_ℚ <ℚ bound_of p (λ _. zero_ℚ) multipliers

-- the numbers of a proposal show that it is right
abbrev pub IsCertificate : Program → Proposal → Type 0
IsCertificate p (Optimal denominator point multipliers) = IsOptimalPair p denominator point.items (map value_of multipliers.items)
IsCertificate p (Infeasible multipliers) = ShowsNoPoint p (map value_of multipliers.items)

-- what a proposal says of the program: no point costs less, or there is none
abbrev pub IsProven : Program → Proposal → Type 0
IsProven p (Optimal denominator point multipliers) = (x : ℕ → ℚ) → Satisfies p x → cost_of p (point_value point.items denominator) ≤ℚ cost_of p x
IsProven p (Infeasible multipliers) = (x : ℕ → ℚ) → Satisfies p x → ⊥
