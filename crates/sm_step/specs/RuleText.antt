-- The rules of inference and what they come to.
use Rattle.std.specs.Prelude.{◌++◌, ℕ, List, codes, Option, Some, None}
use Rattle.sm_base.specs.Whole.{whole_text}
use Rattle.sm_step.specs.declared.line.Outcome.{Outcome}
use Rattle.sm_step.specs.declared.line.Outcome.TheVariants.{Close, Literals}
use Rattle.sm_step.specs.declared.rule.Rule.{Rule}
use Rattle.sm_step.specs.declared.rule.Rule.TheVariants as rule
use Rattle.sm_step.specs.PartText.{number_text, list_text, literal_text, joined}

-- a task's number, or a `-` for none
abbrev pub task_text : Option ℕ → List ℕ
task_text None = codes "-"
task_text (Some task) = number_text task

-- the rule's name, the constraint and the other arguments
abbrev pub rule_text : Rule → List ℕ
rule_text (rule.Sum k half) = codes "sum " ++ number_text k ++ codes " " ++ number_text half
rule_text (rule.Clause k c) = codes "clause " ++ number_text k ++ codes " " ++ number_text c
rule_text (rule.When k half) = codes "when " ++ number_text k ++ codes " " ++ number_text half
rule_text (rule.Hall k w) = codes "hall " ++ number_text k ++ codes " " ++ list_text w
rule_text (rule.Elem k) = codes "elem " ++ number_text k
rule_text (rule.Isum k) = codes "isum " ++ number_text k
rule_text (rule.Time k moment task) = codes "time " ++ number_text k ++ codes " " ++ whole_text moment ++ codes " " ++ task_text task
rule_text (rule.Energy k w) = codes "energy " ++ number_text k ++ codes " " ++ list_text w
rule_text (rule.Load k w) = codes "load " ++ number_text k ++ codes " " ++ list_text w
rule_text (rule.After k task w v) = codes "after " ++ number_text k ++ codes " " ++ number_text task ++ codes " " ++ list_text w ++ codes " " ++ list_text v
rule_text (rule.Before k task w v) = codes "before " ++ number_text k ++ codes " " ++ number_text task ++ codes " " ++ list_text w ++ codes " " ++ list_text v
rule_text (rule.Cap k group) = codes "cap " ++ number_text k ++ codes " " ++ number_text group
rule_text (rule.Pay k) = codes "pay " ++ number_text k
rule_text (rule.Chain k place) = codes "chain " ++ number_text k ++ codes " " ++ number_text place

-- `close`, or literals with spaces between them
abbrev pub outcome_text : Outcome → List ℕ
outcome_text Close = codes "close"
outcome_text (Literals literals) = joined 32 literal_text literals
