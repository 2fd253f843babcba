use Rattle.sm_check.proofs.Ends.{cut_lines}
use Rattle.sm_check.proofs.Outcomes.{one_verdict, ends_apart, one_refusal}
use Rattle.sm_check.proofs.checking.one_outcome.Goals as goal

pub returns-clause-verdict : goal.returns-clause-verdict
returns-clause-verdict c = λ m log v w a b. one_verdict m log v w a b

pub returns-clause-apart : goal.returns-clause-apart
returns-clause-apart c = λ m log v k cause a b. ends_apart m log v k cause a b

pub returns-clause-refusal : goal.returns-clause-refusal
returns-clause-refusal c = λ m log j k cause other a b. one_refusal m log j k cause other a b

pub returns-clause-texts : goal.returns-clause-texts
returns-clause-texts c = λ lines each. cut_lines lines each
