-- What a literal says of a whole number and of a point, and its complement.
use Rattle.std.specs.Prelude.{ℕ, ◌≤◌, List, ℤ, pos, ◌+ℤ◌, ◌-ℤ◌, ◌*ℤ◌, Bool, not, int_le, unsigned_abs}
use Rattle.std.specs.Ordering.{int_eq}
use Rattle.sm_kinds.specs.declared.literal.Literal.{Literal}
use Rattle.sm_kinds.specs.declared.literal.Test.{Test}
use Rattle.sm_kinds.specs.declared.literal.Test.TheVariants.{AtMost, AtLeast, Equal, Unequal}
use Rattle.sm_kinds.specs.declared.var.Var.{Var}
use Rattle.sm_kinds.specs.Points.{Point}
use Rattle.sm_kinds.specs.Vars.{IsDiscrete}

-- the number compares with the bound as the test says
abbrev pub passes_test : Test → ℤ → ℤ → Bool
passes_test AtMost bound v = int_le v bound
passes_test AtLeast bound v = int_le bound v
passes_test Equal bound v = int_eq v bound
passes_test Unequal bound v = not (int_eq v bound)

-- the literal is true of the number
abbrev pub passes : Literal → ℤ → Bool
passes l v = passes_test l.test l.bound v

-- the variable's fraction compares with the bound as the test says; the denominator is above 0
abbrev pub is_true : Point → Literal → Bool
is_true a l = passes_test l.test (l.bound *ℤ a.denominator) (a.numerator l.var)

abbrev pub opposite : Test → Test
opposite AtMost = AtLeast
opposite AtLeast = AtMost
opposite Equal = Unequal
opposite Unequal = Equal

-- the bound of the complement: the next number on the other side, or the same
abbrev pub beyond : Test → ℤ → ℤ
beyond AtMost bound = bound +ℤ pos 1
beyond AtLeast bound = bound -ℤ pos 1
beyond Equal bound = bound
beyond Unequal bound = bound

-- the literal that is true of the whole numbers of which this one is false
abbrev pub complement : Literal → Literal
complement l = record { var = l.var; test = opposite l.test; bound = beyond l.test l.bound }

-- the literal is of a variable with whole values, and its bound is within the limit
pub record IsLiteral (vars : List Var) (limit : ℕ) (l : Literal) : Type 0 where
  pub discrete : IsDiscrete vars l.var
  pub small : unsigned_abs l.bound ≤ limit
