-- A solution by the names of its variables, and a verdict.
use Rattle.std.specs.Prelude.{ℕ, zero, suc, ◌+◌, ◌%◌, ◌==◌, ◌&&◌, List, [], ◌∷◌, ◌++◌, codes, ℤ, pos, int_div, unsigned_abs, Option, Some, None, if◌then◌else◌}
use Rattle.sm_base.specs.Whole.{whole_text}
use Rattle.sm_kinds.specs.declared.var.Var.{Var}
use Rattle.sm_kinds.specs.Points.{Point}
use Rattle.sm_flat.specs.Assignments.{Numbers, point_of}
use Rattle.sm_step.specs.declared.verdict.Verdict.{Verdict}
use Rattle.sm_step.specs.Text.{verdict_text}

-- the greatest of the numbers from 1 to k that divides both
abbrev pub divisor_up_to : ℕ → ℕ → ℕ → ℕ
divisor_up_to zero n d = 1
divisor_up_to (suc k) n d = if n % suc k == 0 && d % suc k == 0 then suc k else divisor_up_to k n d

-- the greatest number that divides numerator and denominator
abbrev pub common_divisor : ℤ → ℤ → ℕ
common_divisor n d = divisor_up_to (unsigned_abs d) (unsigned_abs n) (unsigned_abs d)

-- both divided by a number; a whole number has no denominator
abbrev pub divided_text : ℤ → ℤ → ℕ → List ℕ
divided_text n d by = if unsigned_abs d == by then whole_text (int_div n (pos by)) else whole_text (int_div n (pos by)) ++ codes "/" ++ whole_text (int_div d (pos by))

-- a fraction in lowest terms
abbrev pub ratio_text : ℤ → ℤ → List ℕ
ratio_text n d = divided_text n d (common_divisor n d)

-- a variable and its value
abbrev pub value_line : List ℕ → ℤ → ℤ → List ℕ
value_line name n d = name ++ codes " = " ++ ratio_text n d ++ codes "\n"

-- variables with the numbers from i on, each at its value
abbrev pub value_lines : Point → ℕ → List Var → List ℕ
value_lines p i [] = []
value_lines p i (v ∷ vs) = value_line v.name (p.numerator i) p.denominator ++ value_lines p (i + 1) vs

-- the values of the best solution, where there is one
abbrev pub solution_text : List Var → Option Numbers → List ℕ
solution_text vars None = []
solution_text vars (Some a) = value_lines (point_of a) 0 vars

abbrev pub brief_text : List Var → Option Numbers → Verdict → List ℕ
brief_text vars best v = solution_text vars best ++ verdict_text v ++ codes "\n"
