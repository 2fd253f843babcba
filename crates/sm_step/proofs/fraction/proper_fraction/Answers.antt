use Rattle.std.specs.Int.{w128}
use Rattle.std.proofs.lemmas.Int.{to_z-of_z}
use Rattle.sm_step.proofs.FracParts.{proper_fraction_text}
use Rattle.sm_step.proofs.fraction.proper_fraction.Goals as goal

pub returns-clause-text : goal.returns-clause-text
returns-clause-text c = let same = to_z-of_z w128 c.args.n c.ranges.n in let under = to_z-of_z w128 c.args.d c.ranges.d in
    let parts = rw (same, under) at c.fraction_of.ensures.parts in proper_fraction_text c.args.n c.args.d c.fraction_of.result c.requires parts
