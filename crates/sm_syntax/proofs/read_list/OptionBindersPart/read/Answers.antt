use Rattle.std.proofs.Common.{◌∷◌, []}
use Rattle.sm_syntax.specs.Grammar as g
use Rattle.sm_syntax.specs.TreeSteps.{binding_then}
use Rattle.sm_syntax.specs.Expressions.{binding_of}
use Rattle.sm_syntax.proofs.Readings.{optional_reads}
use Rattle.sm_syntax.proofs.Predictions as predict
use Rattle.sm_syntax.proofs.read_list.OptionBindersPart.read.Goals as goal

pub read_optional-requires-clause-some : goal.read_optional-requires-clause-some
read_optional-requires-clause-some c = predict.for_each_some

pub read_optional-requires-clause-none : goal.read_optional-requires-clause-none
read_optional-requires-clause-none c = predict.for_each_none

pub returns : goal.returns
returns c = optional_reads g.for_each (g.token_for ∷ g.binders ∷ []) binding_then binding_of c.args.reader.now c.read_optional.new.reader c.read_optional.result c.read_optional.ensures
