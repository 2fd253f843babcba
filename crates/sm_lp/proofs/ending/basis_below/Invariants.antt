use Rattle.std.proofs.Common.{◌≡◌, length}
use Rattle.std.specs.Prelude.{slice_index_or, nat_lt}
use Rattle.sm_lp.specs.Rule.{place}
use Rattle.sm_lp.specs.Path.{numbers_below}
use Rattle.sm_lp.proofs.ending.basis_below.Given as goal

abbrev pub invariant-loop-number : goal.invariant-loop-number
invariant-loop-number l = l.basis.items ≡ numbers_below (λ y. nat_lt (place (λ i. slice_index_or l.basic i 0) y (length l.basic)) (length l.basic)) l.number
