-- The first dictionary of a program, in which all slacks are basic. Each column stands for what it is above its least end.
use Rattle.std.specs.Prelude.{ℕ, suc, ◌+◌, ◌-◌, ◌==◌, nat_lt, if◌then◌else◌}
use Rattle.sm_frac.specs.Rational.{ℚ, ◌*ℚ◌, ◌-ℚ◌, neg_ℚ, zero_ℚ, one_ℚ}
use Rattle.sm_certificate.specs.declared.program.Program.{Program}
use Rattle.sm_lp.specs.Dictionary.{Dictionary}
use Rattle.sm_certificate.specs.Totals.{total}
use Rattle.sm_certificate.specs.Program.{column_count, low, high, cost}
use Rattle.sm_certificate.specs.Slacks.{Half, half_count, half_at, slack_count, number_count}

-- a row of n coefficients and the constant after them
unfoldable pub affine : ℕ → (ℕ → ℚ) → ℚ → ℕ → ℚ
affine n coefficients constant j = if nat_lt j n then coefficients j else (if j == n then constant else zero_ℚ)

-- the slack of a half row: what its sum is above its bound
abbrev pub half_entry : Program → Half → ℕ → ℚ
half_entry p half = affine (column_count p) half.coefficient (total (column_count p) (λ j. half.coefficient j *ℚ low p j) -ℚ half.bound)

-- the slack of the greatest end of column k
abbrev pub end_entry : Program → ℕ → ℕ → ℚ
end_entry p k = affine (column_count p) (λ j. if j == k then neg_ℚ one_ℚ else zero_ℚ) (high p k -ℚ low p k)

abbrev pub goal_entry : Program → ℕ → ℚ
goal_entry p = affine (column_count p) (cost p) (total (column_count p) (λ j. cost p j *ℚ low p j))

unfoldable pub first_entry : Program → ℕ → ℕ → ℚ
first_entry p i j =
    if nat_lt i (half_count p) then half_entry p (half_at p i) j
    else (if nat_lt i (slack_count p) then end_entry p (i - half_count p) j
    else (if i == slack_count p then goal_entry p j else zero_ℚ))

-- The columns are nonbasic and the slacks basic. The number after all slacks is the goal's, and the next the constant's.
unfoldable pub first : Program → Dictionary
first p = record {
  height = suc (slack_count p);
  width = suc (column_count p);
  basic = λ i. if nat_lt i (suc (slack_count p)) then column_count p + i else 0;
  nonbasic = λ j. if nat_lt j (column_count p) then j else (if j == column_count p then suc (number_count p) else 0);
  entry = first_entry p;
}
