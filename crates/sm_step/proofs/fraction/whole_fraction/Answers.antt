use Rattle.std.specs.Int.{w128}
use Rattle.std.proofs.lemmas.Int.{to_z-of_z}
use Rattle.sm_step.proofs.FracParts.{whole_fraction_text}
use Rattle.sm_step.proofs.fraction.whole_fraction.Goals as goal

pub returns-clause-text : goal.returns-clause-text
returns-clause-text c = let same = to_z-of_z w128 c.args.n c.ranges.n in let parts = rw same at c.fraction_of.ensures.parts in whole_fraction_text c.args.n c.fraction_of.result parts
