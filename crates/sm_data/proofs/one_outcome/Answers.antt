use Rattle.sm_data.specs.Files.{FileComesTo, told_by}
use Rattle.sm_data.proofs.Outcomes.{one_of_file, told-Answers}
use Rattle.sm_data.proofs.one_outcome.Goals as goal

pub returns-clause-file : goal.returns-clause-file
returns-clause-file c = λ path bytes known a b x y. one_of_file known a b path bytes x y

pub returns-clause-calls : goal.returns-clause-calls
returns-clause-calls c = λ path bytes known after later a b x y had also.
    one_of_file known (told_by after a) (told_by later b) path bytes
    (told-Answers (FileComesTo path bytes known) after a x had) (told-Answers (FileComesTo path bytes known) later b y also)
