use Rattle.sm_syntax.specs.Reading.{next}
use Rattle.sm_syntax.proofs.Predictions as predict
use Rattle.sm_syntax.proofs.read_list.DtaskPart.read.Goals as goal

pub read_rule-requires : goal.read_rule-requires
read_rule-requires c = predict.dtask_any (next c.args.reader.now)
