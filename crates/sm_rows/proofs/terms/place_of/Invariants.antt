use Rattle.std.proofs.Common.{◌≡◌, ◌++◌, take, drop}
use Rattle.std.specs.Prelude.{ℤ}
use Rattle.sm_rows.specs.Terms.{add_term}
use Rattle.sm_rows.proofs.terms.place_of.Given as goal

abbrev pub invariant-loop-i : goal.invariant-loop-i
invariant-loop-i l = (k : ℤ) → add_term l.terms l.column k ≡ take l.i l.terms ++ add_term (drop l.i l.terms) l.column k
