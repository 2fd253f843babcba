use Rattle.sm_syntax.proofs.Predictions as predict
use Rattle.sm_syntax.proofs.read_model.ItemsNamePart.read.Goals as goal

pub read_repeated-requires-clause-more : goal.read_repeated-requires-clause-more
read_repeated-requires-clause-more c = predict.more_sets_some

pub read_repeated-requires-clause-none : goal.read_repeated-requires-clause-none
read_repeated-requires-clause-none c = predict.more_sets_none
