use Rattle.std.proofs.Common.{◌∷◌, []}
use Rattle.sm_syntax.specs.Grammar as g
use Rattle.sm_syntax.specs.TreeSteps.{choice_then}
use Rattle.sm_syntax.specs.Trees.{choice_of}
use Rattle.sm_syntax.proofs.Readings.{list_reads}
use Rattle.sm_syntax.proofs.Predictions as predict
use Rattle.sm_syntax.proofs.read_list.ItemsChoicePart.read.Goals as goal

pub read_repeated-requires-clause-more : goal.read_repeated-requires-clause-more
read_repeated-requires-clause-more c = predict.choices_some

pub read_repeated-requires-clause-none : goal.read_repeated-requires-clause-none
read_repeated-requires-clause-none c = predict.choices_none

pub returns : goal.returns
returns c = list_reads g.choices (g.token_semicolon ∷ g.choice ∷ g.choices ∷ []) choice_then choice_of c.args.reader.now c.read_repeated.new.reader c.read_repeated.result c.read_repeated.ensures
