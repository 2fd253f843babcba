use Rattle.std.proofs.lemmas.Int.{to_z-of_z}
use Rattle.sm_frac.proofs.FracLemmas.{is_lowest_test}
use Rattle.sm_frac.proofs.divisor.is_lowest.Goals as goal

pub returns : goal.returns
returns c =
    let f = c.ranges.n in let g = c.ranges.d in
    is_lowest_test _ _ _ _ _ (simp to_z-of_z at c.unsigned_abs.ensures.value) (simp to_z-of_z at c.unsigned_abs-2.ensures.value) c.gcd.ensures
