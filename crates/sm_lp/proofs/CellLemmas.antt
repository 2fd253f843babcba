-- The cells of a table as the entries of a dictionary.
use Rattle.std.proofs.Common.{◌≡◌, ℕ, ◌<◌, ◌≤◌, ◌+◌, ◌*◌, List, arith}
use Rattle.std.proofs.lemmas.Bool.Decides.{nat_tests}
use Rattle.std.proofs.Math.Nat.{mul-le-mul_right}
use Rattle.sm_frac.specs.Rational.{zero_ℚ}
use Rattle.sm_frac.specs.declared.fraction.Frac.{Frac}
use Rattle.sm_certificate.specs.Numbers.{number_at}
use Rattle.sm_lp.specs.Table.{cell_entry}

pub cell_read : (h w : ℕ) (cells : List Frac) (i j : ℕ) → i < h → j < w → cell_entry h w cells i j ≡ number_at cells (i * w + j)
unfolding cell_entry
cell_read h w cells i j hi hj = grind (arith, nat_tests)

pub cell_right : (h w : ℕ) (cells : List Frac) (i j : ℕ) → w ≤ j → cell_entry h w cells i j ≡ zero_ℚ
unfolding cell_entry
cell_right h w cells i j hj = grind (arith, nat_tests)

pub cell_under : (h w : ℕ) (cells : List Frac) (i j : ℕ) → h ≤ i → cell_entry h w cells i j ≡ zero_ℚ
unfolding cell_entry
cell_under h w cells i j hi = grind (arith, nat_tests)

-- the places of two rows are apart
pub rows_apart : (i k w : ℕ) → i < k → i * w + w ≤ k * w
rows_apart i k w l = let more : (i + 1) * w ≤ k * w = mul-le-mul_right w (omega arith) in omega arith
