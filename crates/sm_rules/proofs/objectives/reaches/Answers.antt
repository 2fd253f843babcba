use Rattle.sm_frac.specs.Rational.{◌<ℚ◌}
use Rattle.sm_rules.specs.Floors.{number_of}
use Rattle.sm_rules.proofs.Fractions.{reaches_below}
use Rattle.sm_rules.proofs.objectives.reaches.Goals as goal

pub returns-then-is_whole : goal.returns-then-is_whole
returns-then-is_whole c =
    let less : (number_of c.args.floor.now) <ℚ (number_of c.args.best.now) = c.is_less.ensures.0 c.if-not-is_less.false in
    let same = reaches_below (number_of c.args.floor.now) c.args.best.now c.one_less.result c.args.is_whole c.requires.best_above less c.one_less.ensures.numerator c.one_less.ensures.denominator c.if-is_whole.true in
    let h = c.is_less-then-is_whole.ensures in
    (λ t. same.0 (h.0 t), λ r. h.1 (same.1 r))
