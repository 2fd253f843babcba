-- The definitions on small values. What is expected is by hand.
use Rattle.std.proofs.Common.{◌≡◌, refl, codes, ℕ, List, [], ◌∷◌, ◌++◌, length, ℤ, pos, negsuc, Some, None, arith}
use Rattle.std.specs.Fmt.{digits}
use Rattle.std.proofs.Math.Nat.{one-dvd}
use Rattle.sm_kinds.specs.declared.var.Var.{Var}
use Rattle.sm_kinds.specs.declared.var.VarKind.TheVariants as kind
use Rattle.sm_frac.specs.declared.fraction.Frac.{Frac}
use Rattle.sm_flat.specs.Assignments.{Numbers}
use Rattle.sm_step.specs.declared.verdict.Verdict.TheVariants as verdict
use Rattle.sm_rules.specs.declared.cause.Cause.TheVariants as cause
use Rattle.sm_data.specs.declared.refusal.Counted.TheVariants as counted
use Rattle.sm_data.specs.declared.refusal.DataCause.TheVariants as data_cause
use Rattle.sm_meaning.specs.declared.refusal.Wrong.TheVariants as wrong
use Rattle.sm_reports.specs.declared.error.ErrorLine.TheVariants as error
use Rattle.sm_reports.specs.Errors.{data_text, error_text}
use Rattle.sm_reports.specs.Briefs.{ratio_text, brief_text}
use Rattle.sm_reports.specs.Checks.{accepted_line, refused_line}

-- ---- what the rows speak of

abbrev named : List ℕ → Var
named name = record { name = name; kind = kind.Int; values = pos 0 ∷ pos 9 ∷ [] }

abbrev x_and_y : List Var
x_and_y = named (codes "x") ∷ named (codes "y") ∷ []

abbrev values_over : ℤ → List ℤ → Numbers
values_over d zs = record { denominator = d; values = zs }

abbrev sixteen : Frac
sixteen = record { n = pos 16; d = pos 1; positive = record { lt = tt }; bounded = omega arith; small = omega arith; lowest = record { apart = (one-dvd 16, one-dvd 1, λ d _ divides. divides) } }

-- ---- solutions

-- x is 5 and y is 2
best_of_two : brief_text x_and_y (Some (values_over (pos 1) (pos 5 ∷ pos 2 ∷ []))) (verdict.Optimal (sixteen ∷ [])) ≡ codes "x = 5\ny = 2\noptimal 16\n"
unfolding digits
best_of_two = refl

bytes_of_two : length (brief_text x_and_y (Some (values_over (pos 1) (pos 5 ∷ pos 2 ∷ []))) (verdict.Optimal (sixteen ∷ []))) ≡ 23
unfolding digits
bytes_of_two = refl

-- x is -3/6, y is 12/6
halves : brief_text x_and_y (Some (values_over (pos 6) (negsuc 2 ∷ pos 12 ∷ []))) verdict.Satisfied ≡ codes "x = -1/2\ny = 2\nsatisfied\n"
unfolding digits
halves = refl

no_variables : brief_text [] (Some (values_over (pos 1) [])) verdict.Satisfied ≡ codes "satisfied\n"
no_variables = refl

no_solution : brief_text x_and_y None verdict.Infeasible ≡ codes "infeasible\n"
no_solution = refl

zero_over_four : ratio_text (pos 0) (pos 4) ≡ codes "0"
unfolding digits
zero_over_four = refl

ten_over_four : ratio_text (pos 10) (pos 4) ≡ codes "5/2"
unfolding digits
ten_over_four = refl

-- ---- checks

accepted_sixteen : accepted_line (verdict.Optimal (sixteen ∷ [])) ≡ codes "accepted optimal 16\n"
unfolding digits
accepted_sixteen = refl

refused_by_law : refused_line 4 cause.Law ≡ codes "refused 4 law\n"
unfolding digits
refused_by_law = refl

-- ---- what is wrong

bad_words : error_text error.Usage ≡ codes "error usage\n"
bad_words = refl

unread : error_text error.Read ≡ codes "error read\n"
unread = refl

no_memory : error_text error.Memory ≡ codes "error memory\n"
no_memory = refl

bad_token : error_text (error.Syntax 3 17) ≡ codes "error syntax 3 17\n"
unfolding digits
bad_token = refl

bad_meaning : error_text (error.Model 1 12 wrong.Benders) ≡ codes "error model 1 12 benders\n"
unfolding digits
bad_meaning = refl

bad_file : data_text (codes "plans/may/shifts.toml") data_cause.Doubled ++ codes "\n" ≡ codes "error data shifts.toml doubled\n"
bad_file = refl

bad_name : data_text (codes "shifts") data_cause.Name ++ codes "\n" ≡ codes "error data shifts name\n"
bad_name = refl

long_file : error_text (error.Limit counted.File (pos 16777217) (pos 16777216)) ≡ codes "error limit file 16777217 16777216\n"
unfolding digits
long_file = refl
