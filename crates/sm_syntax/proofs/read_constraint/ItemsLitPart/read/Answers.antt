use Rattle.std.proofs.Common.{◌∷◌, []}
use Rattle.sm_syntax.specs.Grammar as g
use Rattle.sm_syntax.specs.TreeSteps.{literal_then}
use Rattle.sm_syntax.specs.Expressions.{literal_of}
use Rattle.sm_syntax.proofs.Readings.{list_reads}
use Rattle.sm_syntax.proofs.Predictions as predict
use Rattle.sm_syntax.proofs.read_constraint.ItemsLitPart.read.Goals as goal

pub read_repeated-requires-clause-more : goal.read_repeated-requires-clause-more
read_repeated-requires-clause-more c = predict.more_lits_some

pub read_repeated-requires-clause-none : goal.read_repeated-requires-clause-none
read_repeated-requires-clause-none c = predict.more_lits_none

pub returns : goal.returns
returns c = list_reads g.more_lits (g.token_comma ∷ g.lit ∷ g.more_lits ∷ []) literal_then literal_of c.args.reader.now c.read_repeated.new.reader c.read_repeated.result c.read_repeated.ensures
