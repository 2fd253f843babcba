-- A dictionary writes each basic number as a sum over the nonbasic ones. The constant is a nonbasic number whose value is 1, and the goal a basic one, so neither is a case of its own.
use Rattle.std.specs.Prelude.{◌≡◌, ℕ, suc, zero, ◌<◌, ◌==◌, if◌then◌else◌, nat_lt}
use Rattle.sm_frac.specs.Rational.{ℚ, ◌*ℚ◌, neg_ℚ, ◌-ℚ◌, inverse, zero_ℚ}
use Rattle.sm_certificate.specs.Totals.{total}

pub record Dictionary : Type 0 where
  pub height : ℕ
  pub width : ℕ
  pub basic : ℕ → ℕ
  pub nonbasic : ℕ → ℕ
  pub entry : ℕ → ℕ → ℚ

-- the values v of the numbers agree with row i
abbrev pub SolvesRow : Dictionary → ℕ → (ℕ → ℚ) → Type 0
SolvesRow d i v = v (d.basic i) ≡ total d.width (λ j. d.entry i j *ℚ v (d.nonbasic j))

abbrev pub Solves : Dictionary → (ℕ → ℚ) → Type 0
Solves d v = (i : ℕ) → i < d.height → SolvesRow d i v

-- the entries after the number of column c enters and that of row r leaves; 0 outside, so that two dictionaries that agree inside are one
unfoldable pub pivot_entry : ℕ → ℕ → (ℕ → ℕ → ℚ) → ℕ → ℕ → ℕ → ℕ → ℚ
pivot_entry h w t r c i j =
    let q = inverse (t r c) in
    if nat_lt i h then (if nat_lt j w then (if i == r
    then (if j == c then q else neg_ℚ (t r j *ℚ q))
    else (if j == c then t i c *ℚ q else (t i j -ℚ t i c *ℚ (t r j *ℚ q)))) else zero_ℚ) else zero_ℚ

-- f below n with x at the place k, and 0 from n on
unfoldable pub replaced : ℕ → (ℕ → ℕ) → ℕ → ℕ → ℕ → ℕ
replaced n f k x i = if nat_lt i n then (if i == k then x else f i) else 0

abbrev pub pivot : Dictionary → ℕ → ℕ → Dictionary
pivot d r c = record {
  height = d.height;
  width = d.width;
  basic = replaced d.height d.basic r (d.nonbasic c);
  nonbasic = replaced d.width d.nonbasic c (d.basic r);
  entry = pivot_entry d.height d.width d.entry r c;
}

-- no number stands at two places
pub record IsProper (d : Dictionary) : Type 0 where
  pub basic_apart : (i k : ℕ) → i < d.height → k < d.height → d.basic i ≡ d.basic k → i ≡ k
  pub nonbasic_apart : (i k : ℕ) → i < d.width → k < d.width → d.nonbasic i ≡ d.nonbasic k → i ≡ k
  pub apart : (i j : ℕ) → i < d.height → j < d.width → d.basic i ≡ d.nonbasic j → ⊥

-- the value of g at the place below n where f is k, and x where there is none
unfoldable pub value_at : ℕ → (ℕ → ℕ) → (ℕ → ℚ) → ℕ → ℚ → ℚ
value_at zero f g k x = x
value_at (suc n) f g k x = if f n == k then g n else value_at n f g k x
