use Rattle.std.proofs.lemmas.Int.{to_z-of_z}
use Rattle.sm_frac.proofs.CommonDenominator.{whole_value}
use Rattle.sm_certificate.proofs.number.fraction_of.Goals as goal

pub returns : goal.returns
returns c =
    let f = c.ranges.number in
    whole_value c.whole.result c.args.number (simp to_z-of_z at c.whole.ensures.0) c.whole.ensures.1
