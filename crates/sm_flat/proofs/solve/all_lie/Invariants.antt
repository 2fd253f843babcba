use Rattle.std.proofs.Common.{ℕ, ◌<◌}
use Rattle.sm_kinds.specs.Vars.{LiesIn, var_at}
use Rattle.sm_flat.proofs.solve.all_lie.Given as goal

abbrev pub invariant-loop-i : goal.invariant-loop-i
invariant-loop-i g l = (k : ℕ) → k < l.i → LiesIn (var_at l.vars k).kind (var_at l.vars k).values ((g.V.Values.point l.a).numerator k) (g.V.Values.point l.a).denominator
