use Rattle.sm_syntax.specs.Reading.{next}
use Rattle.sm_syntax.proofs.Predictions as predict
use Rattle.sm_syntax.proofs.read_expression.BindPart.read.Goals as goal

pub read_rule-requires : goal.read_rule-requires
read_rule-requires c = predict.bind_any (next c.args.reader.now)
