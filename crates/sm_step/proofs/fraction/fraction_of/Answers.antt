use Rattle.std.proofs.Common.{to_z, of_z}
use Rattle.std.specs.Int.{w128}
use Rattle.std.proofs.lemmas.Int.{to_z-of_z}
use Rattle.sm_step.proofs.FracParts.{fraction_new}
use Rattle.sm_step.proofs.fraction.fraction_of.Goals as goal

pub returns-clause-value : goal.returns-clause-value
returns-clause-value c = fraction_new c.args.n c.args.d (to_z w128 (of_z w128 c.args.n)) (to_z w128 (of_z w128 c.args.d)) c.ranges.d
    (to_z-of_z w128 c.args.n c.ranges.n) (to_z-of_z w128 c.args.d c.ranges.d) c.new.result c.new.ensures.some c.new.ensures.parts
