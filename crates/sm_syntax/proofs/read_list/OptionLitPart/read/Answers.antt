use Rattle.std.proofs.Common.{◌∷◌, []}
use Rattle.sm_syntax.specs.Grammar as g
use Rattle.sm_syntax.specs.TreeSteps.{literal_then}
use Rattle.sm_syntax.specs.Expressions.{literal_of}
use Rattle.sm_syntax.proofs.Readings.{optional_reads}
use Rattle.sm_syntax.proofs.Predictions as predict
use Rattle.sm_syntax.proofs.read_list.OptionLitPart.read.Goals as goal

pub read_optional-requires-clause-some : goal.read_optional-requires-clause-some
read_optional-requires-clause-some c = predict.presence_some

pub read_optional-requires-clause-none : goal.read_optional-requires-clause-none
read_optional-requires-clause-none c = predict.presence_none

pub returns : goal.returns
returns c = optional_reads g.presence (g.token_when ∷ g.lit ∷ []) literal_then literal_of c.args.reader.now c.read_optional.new.reader c.read_optional.result c.read_optional.ensures
