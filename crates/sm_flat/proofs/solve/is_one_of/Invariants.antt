use Rattle.std.proofs.Common.{drop, ◌↔◌}
use Rattle.sm_kinds.specs.Vars.{IsOneOf}
use Rattle.sm_flat.proofs.solve.is_one_of.Given as goal

abbrev pub invariant-loop-value : goal.invariant-loop-value
invariant-loop-value g l = IsOneOf ((g.V.Values.point l.a).numerator l.i) (g.V.Values.point l.a).denominator (drop l.value-index l.values) ↔ IsOneOf ((g.V.Values.point l.a).numerator l.i) (g.V.Values.point l.a).denominator l.values
