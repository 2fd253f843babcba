-- The limits of a model, each named once. The code has the same numbers by the same names.
use Rattle.std.specs.Prelude.{ℕ, ◌+◌, ◌≤◌, ◌^◌, ℤ, pos, ◌≤ℤ◌, unsigned_abs}

-- the absolute value of a coefficient, bound, table entry or declared value
abbrev pub greatest_number : ℕ
greatest_number = 2 ^ 31

-- a literal of a clause may be the complement of one that a text has, whose bound is one further
abbrev pub greatest_clause_bound : ℕ
greatest_clause_bound = 2 ^ 31 + 1

abbrev pub most_variables : ℕ
most_variables = 4096

-- from the least to the greatest declared value of a set variable, both counted; and of all set variables together
abbrev pub most_width : ℕ
most_width = 4096

abbrev pub most_widths : ℕ
most_widths = 262144

abbrev pub most_constraints : ℕ
most_constraints = 16384

-- terms, picks or listed variables of one constraint
abbrev pub most_terms : ℕ
most_terms = 1024

-- members of one table
abbrev pub most_members : ℕ
most_members = 4096

-- terms, literals and members of the tables of all constraints
abbrev pub most_total : ℕ
most_total = 4194304

-- clauses of one formula
abbrev pub most_clauses : ℕ
most_clauses = 4096

-- tasks of one constraint, and how far the last may end after the first may start
abbrev pub most_tasks : ℕ
most_tasks = 256

abbrev pub most_horizon : ℕ
most_horizon = 65536

-- items and groups of one packing, and the capacity of a group
abbrev pub most_items : ℕ
most_items = 256

abbrev pub most_groups : ℕ
most_groups = 64

abbrev pub most_capacity : ℕ
most_capacity = 16384

-- real variables, and linear and `when` constraints with one
abbrev pub most_reals : ℕ
most_reals = 400

abbrev pub most_real_rows : ℕ
most_real_rows = 400

abbrev pub greatest_branch : ℕ
greatest_branch = 1000000

abbrev pub greatest_sub : ℕ
greatest_sub = 4095

abbrev pub most_goals : ℕ
most_goals = 4

abbrev pub most_goal_terms : ℕ
most_goal_terms = 4096

-- a whole number that is within 2^31
abbrev pub IsSmall : ℤ → Type 0
IsSmall n = unsigned_abs n ≤ greatest_number

-- a size, length, demand or capacity: not below 0, and within 2^31
pub record IsAmount (n : ℤ) : Type 0 where
  pub least : pos 0 ≤ℤ n
  pub small : IsSmall n
