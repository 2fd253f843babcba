use Rattle.std.proofs.Common.{rules, arith}
use Rattle.std.proofs.lemmas.Int.{ints, to_z-of_z}
use Rattle.std.specs.Prelude.{FitsSigned}
use Rattle.std.specs.Int.{w64}
use Rattle.sm_search.proofs.Splitting.{low_splits}
use Rattle.sm_search.proofs.pick.split.Goals as goal

pub returns-in-Half : goal.returns-in-Half
returns-in-Half c =
    let fits : FitsSigned w64 c.middle.result = search rules in
    let ends = c.ends-least.ensures in
    let middle = c.middle.ensures in
    simp to_z-of_z (low_splits c.args.store.now c.args.var c.middle.result c.requires.unfixed c.requires.ordered (omega (arith, ints, ends.least, middle.least)) (omega (arith, ints, ends.greatest, middle.most)) middle.small)
