-- Reading the rules of inference and what they come to.
use Rattle.std.specs.Prelude.{ℕ, List, codes, Option, Some, None}
use Rattle.sm_step.specs.declared.line.Outcome.{Outcome}
use Rattle.sm_step.specs.declared.line.Outcome.TheVariants.{Close, Literals}
use Rattle.sm_step.specs.declared.rule.Rule.{Rule}
use Rattle.sm_step.specs.declared.rule.Rule.TheVariants as rule
use Rattle.sm_step.specs.Reading.{Reads, done, ◌>>=◌, rest_behind, either, behind, whole_in, number_in, list_in, joined_in}
use Rattle.sm_step.specs.PartReading.{literal_in}

-- a task's number, or a `-` for none
unfoldable pub task_in : Reads (Option ℕ)
task_in = either (rest_behind (codes "-")) (done None)
    (number_in >>= λ task. done (Some task))

-- two numbers with a space between them
unfoldable pub two_numbers_in : Reads (ℕ × ℕ)
two_numbers_in = number_in >>= λ k. behind (codes " ") (number_in >>= λ n. done (k, n))

-- a number and a list
unfoldable pub number_and_list_in : Reads (ℕ × List ℕ)
number_and_list_in = number_in >>= λ k. behind (codes " ") (list_in >>= λ w. done (k, w))

-- a number, a task and two lists
unfoldable pub order_in : Reads (ℕ × ℕ × List ℕ × List ℕ)
order_in = two_numbers_in >>= λ p. behind (codes " ") (list_in >>= λ w. behind (codes " ") (list_in >>= λ v. done (p.0, p.1, w, v)))

-- a constraint, a moment and a task
unfoldable pub time_rule_in : Reads Rule
time_rule_in = number_in >>= λ k. behind (codes " ") (whole_in >>= λ moment. behind (codes " ") (task_in >>= λ task. done (rule.Time k moment task)))

-- the rules of scheduling
unfoldable pub task_rule_in : Reads Rule
task_rule_in = either (rest_behind (codes "time ")) time_rule_in
    (either (rest_behind (codes "energy ")) (number_and_list_in >>= λ p. done (rule.Energy p.0 p.1))
    (either (rest_behind (codes "load ")) (number_and_list_in >>= λ p. done (rule.Load p.0 p.1))
    (either (rest_behind (codes "after ")) (order_in >>= λ o. done (rule.After o.0 o.1 o.2 o.3))
    (behind (codes "before ") (order_in >>= λ o. done (rule.Before o.0 o.1 o.2 o.3))))))

-- the rules of values, packing and circuits
unfoldable pub value_rule_in : Reads Rule
value_rule_in = either (rest_behind (codes "elem ")) (number_in >>= λ k. done (rule.Elem k))
    (either (rest_behind (codes "isum ")) (number_in >>= λ k. done (rule.Isum k))
    (either (rest_behind (codes "cap ")) (two_numbers_in >>= λ p. done (rule.Cap p.0 p.1))
    (either (rest_behind (codes "pay ")) (number_in >>= λ k. done (rule.Pay k))
    (either (rest_behind (codes "chain ")) (two_numbers_in >>= λ p. done (rule.Chain p.0 p.1))
    (task_rule_in)))))

-- the other rules, or one of these
unfoldable pub rule_in : Reads Rule
rule_in = either (rest_behind (codes "sum ")) (two_numbers_in >>= λ p. done (rule.Sum p.0 p.1))
    (either (rest_behind (codes "clause ")) (two_numbers_in >>= λ p. done (rule.Clause p.0 p.1))
    (either (rest_behind (codes "when ")) (two_numbers_in >>= λ p. done (rule.When p.0 p.1))
    (either (rest_behind (codes "hall ")) (number_and_list_in >>= λ p. done (rule.Hall p.0 p.1))
    (value_rule_in))))

-- `close`, or literals with spaces between them
unfoldable pub outcome_in : Reads Outcome
outcome_in = either (rest_behind (codes "close")) (done Close)
    (joined_in 32 literal_in >>= λ literals. done (Literals literals))
