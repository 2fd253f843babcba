use Rattle.std.proofs.Common.{◌∷◌, []}
use Rattle.sm_syntax.specs.Grammar as g
use Rattle.sm_syntax.specs.TreeSteps.{load_then}
use Rattle.sm_syntax.specs.Trees.{load_of}
use Rattle.sm_syntax.proofs.Readings.{list_reads}
use Rattle.sm_syntax.proofs.Predictions as predict
use Rattle.sm_syntax.proofs.read_list.ItemsLoadPart.read.Goals as goal

pub read_repeated-requires-clause-more : goal.read_repeated-requires-clause-more
read_repeated-requires-clause-more c = predict.loads_some

pub read_repeated-requires-clause-none : goal.read_repeated-requires-clause-none
read_repeated-requires-clause-none c = predict.loads_none

pub returns : goal.returns
returns c = list_reads g.loads (g.token_semicolon ∷ g.load ∷ g.loads ∷ []) load_then load_of c.args.reader.now c.read_repeated.new.reader c.read_repeated.result c.read_repeated.ensures
