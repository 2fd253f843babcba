use Rattle.sm_answers.proofs.Texts.{true_of_text}
use Rattle.sm_answers.proofs.answer_law.Goals as goal

pub returns : goal.returns
returns c = λ t tables m best v h. true_of_text t tables m h best v
