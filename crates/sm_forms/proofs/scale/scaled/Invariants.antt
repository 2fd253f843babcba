use Rattle.std.proofs.Common.{◌≡◌, ◌≢◌, pos, drop, length}
use Rattle.sm_forms.proofs.Queries.{first_in}
use Rattle.sm_forms.proofs.Scaling.{part_scaled, above_scaled}
use Rattle.sm_forms.proofs.scale.scaled.Given as goal

abbrev pub invariant-loop-i : goal.invariant-loop-i
invariant-loop-i l = record {
  nonzero : l.fn.by ≢ pos 0;
  ends : l.i-end ≡ length l.fn.terms;
  terms : l.terms ≡ part_scaled l.fn.by l.i l.fn.terms;
  kept : first_in (above_scaled l.fn.by) (drop l.i l.fn.terms) ≡ first_in (above_scaled l.fn.by) l.fn.terms;
}
