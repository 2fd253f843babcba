use Rattle.std.proofs.Common.{◌≡◌, ◌≤◌, ◌*◌, ◌+◌, drop}
use Rattle.std.specs.Prelude.{sum_by}
use Rattle.sm_kinds.specs.Vars.{set_width}
use Rattle.sm_kinds.specs.declared.var.Var.{Var}
use Rattle.sm_flat.proofs.limits.widths_of.Given as goal

abbrev pub invariant-loop-var : goal.invariant-loop-var
invariant-loop-var l = record {
  so_far : l.total + sum_by (λ (v : Var). set_width v.kind v.values) (drop l.var-index l.vars) ≡ sum_by (λ (v : Var). set_width v.kind v.values) l.vars;
  bound : l.total ≤ l.var-index * 4096;
}
