-- What an expression means: a function of the values of the variables. Nothing here knows of terms; a coefficient is by
-- how much the meaning grows with its variable.
use Rattle.std.specs.Prelude.{ℕ, zero, suc, ◌^◌, ◌==◌, ℤ, pos, ◌-ℤ◌, ◌*ℤ◌, ◌<ℤ◌, unsigned_abs, Bool, true, ◌&&◌, nat_lt, int_div, Option, Some, None, List, [], ◌∷◌, ◌++◌, if◌then◌else◌}
use Rattle.std.specs.Ordering.{int_eq}

-- the value of each variable, as a fraction over one denominator
pub record Values : Type 0 where
  pub denominator : ℤ
  pub numerator : ℕ → ℤ
  pub positive : pos 0 <ℤ denominator

-- the value of an expression, times the denominator
abbrev pub Meaning : Type 0
Meaning = Values → ℤ

-- ---- whole values

abbrev pub whole_values : (ℕ → ℤ) → Values
whole_values f = record { denominator = pos 1; numerator = f; positive = record { lt = tt } }

-- every variable is 0
abbrev pub nowhere : Values
nowhere = whole_values (λ j. pos 0)

-- variable i is 1, the others are 0
abbrev pub unit : ℕ → Values
unit i = whole_values (λ j. if j == i then pos 1 else pos 0)

-- ---- what a meaning is made of

-- by how much it grows with variable i
abbrev pub coefficient : Meaning → ℕ → ℤ
coefficient g i = g (unit i) -ℤ g nowhere

-- what it is where every variable is 0
abbrev pub constant_of : Meaning → ℤ
constant_of g = g nowhere

-- the first answer that there is
abbrev pub first : {X : Type 0} → Option X → Option X → Option X
first (Some x) other = Some x
first None other = other

-- the first of the answers at 0 to n - 1
abbrev pub first_below : {X : Type 0} → ℕ → (ℕ → Option X) → Option X
first_below zero f = None
first_below (suc k) f = first (first_below k f) (f k)

-- the absolute value of a number, where it is above the limit
abbrev pub above : ℕ → ℤ → Option ℕ
above limit z = if nat_lt limit (unsigned_abs z) then Some (unsigned_abs z) else None

-- the first coefficient of the n variables that is above the limit
abbrev pub coefficient_above : ℕ → ℕ → Meaning → Option ℕ
coefficient_above limit n g = first_below n (λ i. above limit (coefficient g i))

-- any number that is met while evaluating is at most this, in absolute value
abbrev pub greatest_value : ℕ
greatest_value = 2 ^ 62

-- the first number of a meaning that is too large: coefficients in the order of variables, then the constant
abbrev pub large_value : ℕ → Meaning → Option ℕ
large_value n g = first (coefficient_above greatest_value n g) (above greatest_value (constant_of g))

-- no variable below n matters
abbrev pub is_constant : ℕ → Meaning → Bool
is_constant zero g = true
is_constant (suc k) g = is_constant k g && int_eq (coefficient g k) (pos 0)

-- variable i has this coefficient, and each other below n has 0
abbrev pub is_only : ℕ → ℕ → Meaning → Bool
is_only zero i g = true
is_only (suc k) i g = is_only k i g && int_eq (coefficient g k) (if k == i then pos 1 else pos 0)

-- the single variable that it is: with the coefficient 1, without others and without a constant
abbrev pub variable_of : ℕ → Meaning → Option ℕ
variable_of n g = first_below n (λ i. if is_only n i g && int_eq (constant_of g) (pos 0) then Some i else None)

-- the coefficients other than 0 of the n variables, in the order of variables
abbrev pub terms_of : ℕ → Meaning → List (ℕ × ℤ)
terms_of zero g = []
terms_of (suc k) g = terms_of k g ++ (if int_eq (coefficient g k) (pos 0) then [] else (k, coefficient g k) ∷ [])

-- the product of two values, times the denominator: exact where one of them is constant
abbrev pub product_of : Meaning → Meaning → Meaning
product_of x y a = int_div (x a *ℤ y a) a.denominator
