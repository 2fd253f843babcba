use Rattle.std.proofs.lemmas.Int.{to_z-of_z}
use Rattle.sm_certificate.proofs.PointLemmas.{coordinate_value, coordinate_passed, not_whole_zero}
use Rattle.sm_certificate.proofs.feasible.coordinate.Goals as goal

pub over-requires : goal.over-requires
over-requires c =
    let d = c.ranges.denominator in
    not_whole_zero c.fraction_of.result c.args.denominator c.requires.denominator (simp to_z-of_z at c.fraction_of.ensures)

pub returns-clause-exact : goal.returns-clause-exact
returns-clause-exact c =
    let n = c.ranges.numerator in
    let d = c.ranges.denominator in
    coordinate_value c.over.result c.whole.result c.fraction_of.result c.args.numerator c.args.denominator c.requires.denominator (simp to_z-of_z at c.whole.ensures) (simp to_z-of_z at c.fraction_of.ensures) c.over.ensures.exact

pub returns-clause-passed : goal.returns-clause-passed
returns-clause-passed c =
    let n = c.ranges.numerator in
    let d = c.ranges.denominator in
    coordinate_passed c.over.result c.whole.result c.fraction_of.result c.args.numerator c.args.denominator (simp to_z-of_z at c.whole.ensures) (simp to_z-of_z at c.fraction_of.ensures) c.over.ensures.passed.0 c.over.ensures.carried
