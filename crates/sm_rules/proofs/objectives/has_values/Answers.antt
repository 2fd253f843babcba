use Rattle.std.proofs.Common.{arith, ap, length, List}
use Rattle.sm_flat.specs.declared.goal.Goal.{Goal}
use Rattle.sm_flat.specs.Assignments.{point_of}
use Rattle.sm_rules.proofs.Sums.{values_length}
use Rattle.sm_rules.proofs.objectives.has_values.Goals as goal

pub returns-then-values-goals : goal.returns-then-values-goals
returns-then-values-goals c = (
  λ t. absurd (cc),
  λ h. absurd (let same = values_length c.args.flat.now.goals (point_of c.args.a.now) c.args.values.now h in let goals = ap (λ (gs : List Goal). length gs) c.goals.ensures.value in omega (arith, same, goals)),
)
