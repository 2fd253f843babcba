-- Names of rows, terms and rules are read from their texts.
use Rattle.std.proofs.Common.{◌≡◌, ℕ, ℤ, List, [], ◌∷◌, ◌++◌, Option, Some, None, refl, ◌∙◌, ap, arith, append_assoc}
use Rattle.std.specs.Prelude.{codes, All}
use Rattle.sm_base.specs.Whole.{whole_text}
use Rattle.sm_kinds.specs.declared.literal.Literal.{Literal}
use Rattle.sm_step.specs.declared.line.Outcome.{Outcome}
use Rattle.sm_step.specs.declared.line.Outcome.TheVariants.{Close, Literals}
use Rattle.sm_step.specs.declared.row.Col.{Col}
use Rattle.sm_step.specs.declared.row.Col.TheVariants.{Var, Is}
use Rattle.sm_step.specs.declared.row.RowRef.{RowRef}
use Rattle.sm_step.specs.declared.row.RowRef.TheVariants as row
use Rattle.sm_step.specs.declared.row.Term.{Term}
use Rattle.sm_step.specs.declared.rule.Rule.{Rule}
use Rattle.sm_step.specs.declared.rule.Rule.TheVariants as rule
use Rattle.sm_step.specs.PartText.{number_text, list_text, literal_text, fraction_text, joined}
use Rattle.sm_step.specs.RowText.{column_text, row_text, term_text, terms_text}
use Rattle.sm_step.specs.RuleText.{task_text, rule_text, outcome_text}
use Rattle.sm_step.specs.Grammar.{IsNumber, IsWideNumber, IsList, IsSome, IsLiteral, IsColumn, IsRow, IsTerm, IsTask, IsRule, IsOutcome, IsOneOutcome}
use Rattle.sm_step.specs.Reading.{rest_behind, EndsNumber}
use Rattle.sm_step.specs.PartReading.{literal_in}
use Rattle.sm_step.specs.RowReading.{column_in, pair_in, number_and_whole_in, task_row_in, row_in, term_in, terms_in}
use Rattle.sm_step.specs.RuleReading.{task_in, two_numbers_in, number_and_list_in, order_in, time_rule_in, task_rule_in, value_rule_in, rule_in, outcome_in}
use Rattle.sm_step.proofs.Numbers.{whole_next}
use Rattle.sm_step.proofs.Exact.{IsExact, IsMark, EndsList, number_next, long_next, narrow_next, list_next, literal_exact, fraction_next, each_next, joined_next, number_no_dash, space_ends_number, nest3, nest5}

-- neither a digit nor a `=` comes next
pub record EndsColumn (rest : List ℕ) : Type 0 where
  pub number : EndsNumber rest
  pub equal : rest_behind (codes "=") rest ≡ None

column_next : (c : Col) (rest : List ℕ) → IsColumn c → EndsColumn rest → column_in (column_text c ++ rest) ≡ Some (c, rest)
unfolding column_in
column_next (Var v) rest is ends = rw (number_next v rest is ends.number, ends.equal) refl
column_next (Is v x) rest is ends =
    ap (λ (t : List ℕ). column_in (118 ∷ t)) (nest3 (number_text v) (codes "=") (whole_text x) rest)
    ∙ rw (number_next v (codes "=" ++ (whole_text x ++ rest)) is.0 refl, narrow_next x rest is.1 ends.number) refl

pub column_exact : IsExact column_in column_text IsColumn EndsColumn
column_exact = record { next = column_next }

pub comma_ends_column : IsMark 44 EndsColumn
comma_ends_column = record { ends = λ rest. record { number = refl; equal = refl } }

pair_next : (k n : ℕ) (rest : List ℕ) → IsNumber k → IsNumber n → EndsNumber rest → pair_in (number_text k ++ codes "." ++ number_text n ++ rest) ≡ Some ((k, n), rest)
unfolding pair_in
pair_next k n rest first second ends =
    ap pair_in (nest3 (number_text k) (codes ".") (number_text n) rest)
    ∙ rw (number_next k (codes "." ++ (number_text n ++ rest)) first refl, number_next n rest second ends) refl

number_and_whole_next : (k : ℕ) (z : ℤ) (rest : List ℕ) → IsNumber k → IsWideNumber z → EndsNumber rest → number_and_whole_in (number_text k ++ codes "." ++ whole_text z ++ rest) ≡ Some ((k, z), rest)
unfolding number_and_whole_in
number_and_whole_next k z rest first second ends =
    ap number_and_whole_in (nest3 (number_text k) (codes ".") (whole_text z) rest)
    ∙ rw (number_next k (codes "." ++ (whole_text z ++ rest)) first refl, whole_next z rest second ends) refl

pub row_next : (r : RowRef) (rest : List ℕ) → IsRow r → EndsList rest → row_in (row_text r ++ rest) ≡ Some (r, rest)
unfolding row_in task_row_in
row_next (row.Lin k) rest is ends = rw (number_next k rest is ends.number) refl
row_next (row.Link v) rest is ends = rw (number_next v rest is ends.number) refl
row_next (row.Mean v) rest is ends = rw (number_next v rest is ends.number) refl
row_next (row.Clause k c) rest is ends = rw (pair_next k c rest is.0 is.1 ends.number) refl
row_next (row.When k half) rest is ends = rw (pair_next k half rest is.0 is.1 ends.number) refl
row_next (row.Value k v) rest is ends = rw (number_and_whole_next k v rest is.0 is.1 ends.number) refl
row_next (row.Table k) rest is ends = rw (number_next k rest is ends.number) refl
row_next (row.Time k moment) rest is ends = rw (number_and_whole_next k moment rest is.0 is.1 ends.number) refl
row_next (row.Par k tasks) rest is ends =
    ap (λ (t : List ℕ). row_in (codes "par." ++ t)) (nest3 (number_text k) (codes ".") (list_text tasks) rest)
    ∙ rw (number_next k (codes "." ++ (list_text tasks ++ rest)) is.0 refl, list_next tasks rest is.1 ends) refl
row_next (row.Cap k group) rest is ends = rw (pair_next k group rest is.0 is.1 ends.number) refl
row_next (row.Pack k) rest is ends = rw (number_next k rest is ends.number) refl
row_next (row.Once k node) rest is ends = rw (pair_next k node rest is.0 is.1 ends.number) refl
row_next (row.SelfLoop k place) rest is ends = rw (pair_next k place rest is.0 is.1 ends.number) refl
row_next (row.Cut cut) rest is ends = rw (long_next cut rest is ends.number) refl
row_next (row.Goal level) rest is ends = absurd is
row_next (row.Named name) rest is ends = absurd is

term_next : (t : Term) (rest : List ℕ) → IsTerm t → EndsList rest → term_in (term_text t ++ rest) ≡ Some (t, rest)
unfolding term_in
term_next t rest is ends =
    ap term_in (nest3 (fraction_text t.by) (codes "@") (row_text t.row) rest)
    ∙ rw (fraction_next t.by (codes "@" ++ (row_text t.row ++ rest)) (record { number = refl; slash = refl }), row_next t.row rest is ends) refl

pub term_exact : IsExact term_in term_text IsTerm EndsList
term_exact = record { next = term_next }

pub space_ends_list : IsMark 32 EndsList
space_ends_list = record { ends = λ rest. record { number = refl; comma = refl } }

-- terms end a line
pub terms_next : (ts : List Term) → All IsTerm ts → terms_in (terms_text ts ++ codes "\n") ≡ Some (ts, codes "\n")
terms_next ts all = each_next 32 term_in term_text IsTerm EndsList ts (codes "\n") term_exact space_ends_list all (record { number = refl; comma = refl }) refl

-- ---- rules

task_next : (t : Option ℕ) (rest : List ℕ) → IsTask t → EndsNumber rest → task_in (task_text t ++ rest) ≡ Some (t, rest)
unfolding task_in
task_next None rest is ends = refl
task_next (Some task) rest is ends = rw (number_no_dash task rest (omega (arith, is)), number_next task rest is ends) refl

two_numbers_next : (k n : ℕ) (rest : List ℕ) → IsNumber k → IsNumber n → EndsNumber rest → two_numbers_in (number_text k ++ codes " " ++ number_text n ++ rest) ≡ Some ((k, n), rest)
unfolding two_numbers_in
two_numbers_next k n rest first second ends =
    ap two_numbers_in (nest3 (number_text k) (codes " ") (number_text n) rest)
    ∙ rw (number_next k (codes " " ++ (number_text n ++ rest)) first refl, number_next n rest second ends) refl

number_and_list_next : (k : ℕ) (w : List ℕ) (rest : List ℕ) → IsNumber k → IsList w → EndsList rest → number_and_list_in (number_text k ++ codes " " ++ list_text w ++ rest) ≡ Some ((k, w), rest)
unfolding number_and_list_in
number_and_list_next k w rest first second ends =
    ap number_and_list_in (nest3 (number_text k) (codes " ") (list_text w) rest)
    ∙ rw (number_next k (codes " " ++ (list_text w ++ rest)) first refl, list_next w rest second ends) refl

nest7 : (a b c d e f g rest : List ℕ) → a ++ b ++ c ++ d ++ e ++ f ++ g ++ rest ≡ a ++ b ++ c ++ (d ++ (e ++ (f ++ (g ++ rest))))
nest7 a b c d e f g rest = simp append_assoc

order_next : (k task : ℕ) (w v : List ℕ) (rest : List ℕ) → IsNumber k → IsNumber task → IsList w → IsList v → EndsList rest
    → order_in (number_text k ++ codes " " ++ number_text task ++ codes " " ++ list_text w ++ codes " " ++ list_text v ++ rest) ≡ Some ((k, task, w, v), rest)
unfolding order_in
order_next k task w v rest first second third fourth ends =
    let last = codes " " ++ (list_text v ++ rest) in
    ap order_in (nest7 (number_text k) (codes " ") (number_text task) (codes " ") (list_text w) (codes " ") (list_text v) rest)
    ∙ rw (two_numbers_next k task (codes " " ++ (list_text w ++ last)) first second refl, list_next w last third (record { number = refl; comma = refl }), list_next v rest fourth ends) refl

time_rule_next : (k : ℕ) (moment : ℤ) (task : Option ℕ) (rest : List ℕ) → IsNumber k → IsWideNumber moment → IsTask task → EndsNumber rest
    → time_rule_in (number_text k ++ codes " " ++ whole_text moment ++ codes " " ++ task_text task ++ rest) ≡ Some (rule.Time k moment task, rest)
unfolding time_rule_in
time_rule_next k moment task rest first second third ends =
    let last = codes " " ++ (task_text task ++ rest) in
    ap time_rule_in (nest5 (number_text k) (codes " ") (whole_text moment) (codes " ") (task_text task) rest)
    ∙ rw (number_next k (codes " " ++ (whole_text moment ++ last)) first refl, whole_next moment last second refl, task_next task rest third ends) refl

pub rule_next : (r : Rule) (rest : List ℕ) → IsRule r → EndsList rest → rule_in (rule_text r ++ rest) ≡ Some (r, rest)
unfolding rule_in value_rule_in task_rule_in
rule_next (rule.Sum k half) rest is ends = rw (two_numbers_next k half rest is.0 is.1 ends.number) refl
rule_next (rule.Clause k c) rest is ends = rw (two_numbers_next k c rest is.0 is.1 ends.number) refl
rule_next (rule.When k half) rest is ends = rw (two_numbers_next k half rest is.0 is.1 ends.number) refl
rule_next (rule.Hall k w) rest is ends = rw (number_and_list_next k w rest is.0 is.1 ends) refl
rule_next (rule.Elem k) rest is ends = rw (number_next k rest is ends.number) refl
rule_next (rule.Isum k) rest is ends = rw (number_next k rest is ends.number) refl
rule_next (rule.Time k moment task) rest is ends = time_rule_next k moment task rest is.0 is.1 is.2 ends.number
rule_next (rule.Energy k w) rest is ends = rw (number_and_list_next k w rest is.0 is.1 ends) refl
rule_next (rule.Load k w) rest is ends = rw (number_and_list_next k w rest is.0 is.1 ends) refl
rule_next (rule.After k task w v) rest is ends = rw (order_next k task w v rest is.0 is.1 is.2 is.3 ends) refl
rule_next (rule.Before k task w v) rest is ends = rw (order_next k task w v rest is.0 is.1 is.2 is.3 ends) refl
rule_next (rule.Cap k group) rest is ends = rw (two_numbers_next k group rest is.0 is.1 ends.number) refl
rule_next (rule.Pay k) rest is ends = rw (number_next k rest is ends.number) refl
rule_next (rule.Chain k place) rest is ends = rw (two_numbers_next k place rest is.0 is.1 ends.number) refl

no_close : (ls : List Literal) (rest : List ℕ) → IsSome ls → rest_behind (codes "close") (joined 32 literal_text ls ++ rest) ≡ None
no_close [] rest some = absurd (omega (arith, some))
no_close (l ∷ ls) rest some = refl

-- what is inferred ends a line
pub outcome_next : (o : Outcome) → IsOutcome o → outcome_in (outcome_text o ++ codes "\n") ≡ Some (o, codes "\n")
unfolding outcome_in
outcome_next Close is = refl
outcome_next (Literals literals) is =
    rw (no_close literals (codes "\n") is.0, joined_next 32 literal_in literal_text IsLiteral EndsNumber literals (codes "\n") literal_exact space_ends_number is.0 is.1 refl refl) refl

pub one_outcome : (o : Outcome) → IsOneOutcome o → IsOutcome o
one_outcome Close is = tt
one_outcome (Literals literals) is = (omega (arith, is.0), is.1)
