-- Which numbers the program takes as an assignment, and which point they are.
use Rattle.std.specs.Prelude.{◌≤◌, ◌^◌, ◌*◌, List, ℤ, pos, ◌≤ℤ◌, All, unsigned_abs, slice_index_or}
use Rattle.sm_kinds.specs.Points.{Point}

-- numerators over a common denominator
pub record Numbers : Type 0 where
  pub denominator : ℤ
  pub values : List ℤ

-- the denominator is from 1 to 2^52, and each value is within 2^31 in absolute value
pub record IsAssignment (denominator : ℤ) (numerators : List ℤ) : Type 0 where
  pub least : pos 1 ≤ℤ denominator
  pub most : denominator ≤ℤ pos (2 ^ 52)
  pub small : All (λ n. unsigned_abs n ≤ unsigned_abs denominator * 2 ^ 31) numerators

-- these numerators over the denominator, and 0 for a variable that has none
abbrev pub point : ℤ → List ℤ → Point
point denominator numerators = record { denominator = denominator; numerator = λ i. slice_index_or numerators i (pos 0) }

abbrev pub point_of : Numbers → Point
point_of a = point a.denominator a.values
