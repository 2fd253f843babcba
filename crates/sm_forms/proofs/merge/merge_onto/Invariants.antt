use Rattle.std.proofs.Common.{ℕ, ◌≤◌, ◌+◌, ◌-◌, length}
use Rattle.sm_forms.specs.Merging.{Starts}
use Rattle.sm_forms.proofs.Merges.{Merges}
use Rattle.sm_forms.proofs.merge.merge_onto.Given as goal

abbrev pub invariant-loop-i : goal.invariant-loop-i
invariant-loop-i l = record {
  i_in : l.i ≤ length l.left;
  j_in : l.j ≤ length l.right;
  merges : (n : ℕ) → Starts n l.fn.terms l.left l.right → Merges n l.fn.terms l.left l.i l.by l.right l.j l.terms;
}

abbrev pub decreases-loop-i : goal.decreases-loop-i
decreases-loop-i l = (length l.left + length l.right) - (l.i + l.j)
