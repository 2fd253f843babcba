use Rattle.std.proofs.Common.{◌∷◌, []}
use Rattle.sm_syntax.specs.Grammar as g
use Rattle.sm_syntax.specs.TreeSteps.{dtask_then}
use Rattle.sm_syntax.specs.Trees.{dtask_of}
use Rattle.sm_syntax.proofs.Readings.{list_reads}
use Rattle.sm_syntax.proofs.Predictions as predict
use Rattle.sm_syntax.proofs.read_list.ItemsDtaskPart.read.Goals as goal

pub read_repeated-requires-clause-more : goal.read_repeated-requires-clause-more
read_repeated-requires-clause-more c = predict.more_dtasks_some

pub read_repeated-requires-clause-none : goal.read_repeated-requires-clause-none
read_repeated-requires-clause-none c = predict.more_dtasks_none

pub returns : goal.returns
returns c = list_reads g.more_dtasks (g.token_semicolon ∷ g.dtask ∷ g.more_dtasks ∷ []) dtask_then dtask_of c.args.reader.now c.read_repeated.new.reader c.read_repeated.result c.read_repeated.ensures
