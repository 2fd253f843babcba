use Rattle.std.proofs.Common.{◌≡◌, take}
use Rattle.sm_rows.specs.Terms.{without_zeros}
use Rattle.sm_rows.proofs.row.without_zeros.Given as goal

abbrev pub invariant-loop-term : goal.invariant-loop-term
invariant-loop-term l = l.kept.items ≡ without_zeros (take l.term-index l.terms)
