use Rattle.std.proofs.Common.{◌≡◌, ◌≤◌, ◌+◌, ◌*◌, drop}
use Rattle.std.specs.Prelude.{unsigned_abs}
use Rattle.sm_rows.specs.Forms.{form_weight}
use Rattle.rule_basic.specs.ClauseRows.{add_forms}
use Rattle.rule_basic.proofs.forms.add_forms.Given as goal

abbrev pub invariant-loop-literal : goal.invariant-loop-literal
invariant-loop-literal l = record {
  so_far : add_forms l.flat l.by l.total (drop l.literal-index l.literals) ≡ add_forms l.flat l.by l.fn.sum l.literals;
  room : form_weight l.total ≤ form_weight l.fn.sum + l.literal-index * (unsigned_abs l.by * 65);
}
