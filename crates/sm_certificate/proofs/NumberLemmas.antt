-- Reading and writing a slice of fractions as numbers.
use Rattle.std.proofs.Common.{◌≡◌, ℕ, ◌<◌, ◌≤◌, ◌≢◌, List, length, get_or, set, sym, ap, ◌∙◌, arith}
use Rattle.std.specs.Prelude.{map}
use Rattle.std.proofs.lemmas.List.{get_or-map, length-map, get_or-set_same, get_or-set_other, map-set, get_or_past}
use Rattle.sm_frac.specs.Rational.{ℚ, zero_ℚ}
use Rattle.sm_frac.specs.Frac.{value_of}
use Rattle.sm_frac.specs.declared.fraction.Frac.{Frac}
use Rattle.sm_certificate.specs.Numbers.{number_at}

-- what an index read is, as the check says it: `r ≡ get_or xs j r`
pub number_read : (xs : List Frac) (j : ℕ) (r : Frac) → j < length xs → r ≡ get_or xs j r → number_at xs j ≡ value_of r
number_read xs j r h e = get_or-map value_of xs j r zero_ℚ h ∙ ap value_of (sym e)

pub number_at-set_same : (xs : List Frac) (i : ℕ) (v : Frac) → i < length xs → number_at (set xs i v) i ≡ value_of v
number_at-set_same xs i v h = ap (λ (ys : List ℚ). get_or ys i zero_ℚ) (map-set value_of xs i v) ∙ get_or-set_same (map value_of xs) i (value_of v) zero_ℚ (let long = length-map xs value_of in omega arith)

pub number_at-set_other : (xs : List Frac) (i : ℕ) (v : Frac) (k : ℕ) → k ≢ i → number_at (set xs i v) k ≡ number_at xs k
number_at-set_other xs i v k h = ap (λ (ys : List ℚ). get_or ys k zero_ℚ) (map-set value_of xs i v) ∙ get_or-set_other (map value_of xs) i k (value_of v) zero_ℚ h

pub number_past : (xs : List Frac) (k : ℕ) → length xs ≤ k → number_at xs k ≡ zero_ℚ
number_past xs k h = get_or_past (map value_of xs) k zero_ℚ (let long = length-map xs value_of in omega arith)
