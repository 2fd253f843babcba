use Rattle.std.proofs.Common.{◌≡◌, ◌≤◌, ◌+◌, ◌*◌, drop}
use Rattle.std.specs.Prelude.{unsigned_abs}
use Rattle.sm_rows.specs.Terms.{add_terms, weight}
use Rattle.sm_rows.proofs.form.add_terms.Given as goal

abbrev pub invariant-loop-term : goal.invariant-loop-term
invariant-loop-term l = record {
  so_far : add_terms l.sum l.by (drop l.term-index l.terms) ≡ add_terms l.fn.sum l.by l.terms;
  room : weight l.sum + unsigned_abs l.by * weight (drop l.term-index l.terms) ≤ weight l.fn.sum + unsigned_abs l.by * weight l.terms;
}
