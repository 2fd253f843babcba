use Rattle.sm_step.proofs.Lines.{one_text}
use Rattle.sm_step.proofs.reading.one_line.Goals as goal

pub returns : goal.returns
returns c = λ l k is also e. one_text l k is also e
