-- The bits of words by place.
use Rattle.std.proofs.Common.{◌≡◌, ℕ, suc, ◌+◌, ◌-◌, ◌*◌, ◌/◌, ◌%◌, ◌^◌, ◌<◌, ◌≤◌, min, List, length, get_or, sym, ap, ◌∙◌, subst, ⊎_elim, arith, w64}
use Rattle.std.specs.Prelude.{bit_and}
use Rattle.std.specs.Int.{bit_at, bit_not, trailing_zeros, leading_zeros}
use Rattle.std.proofs.lemmas.Bool.{cases_lt}
use Rattle.std.proofs.lemmas.List.{get_or_past}
use Rattle.std.proofs.lemmas.Nat.{and_le_l, leading_top, le-div, pow_pos, shr_below}
use Rattle.std.proofs.lemmas.Nat.Bits.{bit_at-zero, bit_at-lt, bit_at_and, bit_at_not, bit_at-trailing_zeros, bit_at_above}
use Rattle.sm_lanes.specs.Bits.{bit_of, IsSubset, HasNoOne, IsFirstOne, IsLastOne}

-- a place within a word
bit_of_word : (words : List ℕ) (w i : ℕ) → i < 64 → bit_of words (64 * w + i) ≡ bit_at (get_or words w 0) i
bit_of_word words w i l =
    let word : (64 * w + i) / 64 ≡ w = omega arith in
    let within : (64 * w + i) % 64 ≡ i = omega arith in
    ap (λ (k : ℕ). bit_at (get_or words k 0) ((64 * w + i) % 64)) word
    ∙ ap (λ (r : ℕ). bit_at (get_or words w 0) r) within

zero_bit : (words : List ℕ) (p : ℕ) → get_or words (p / 64) 0 ≡ 0 → bit_of words p ≡ 0
zero_bit words p h = ap (λ (n : ℕ). bit_at n (p % 64)) h ∙ bit_at-zero (p % 64)

-- ---- the first and the last place that is 1
pub first_in : (words : List ℕ) (at : ℕ) → at < length words → ((k : ℕ) → k < at → get_or words k 0 ≡ 0)
    → (get_or words at 0 ≡ 0 → ⊥) → get_or words at 0 < 2 ^ 64
    → IsFirstOne words (64 * at + trailing_zeros w64 (get_or words at 0))
first_in words at room zeros some fits =
    let low = bit_at-trailing_zeros w64 (get_or words at 0) (omega arith) fits in
    let within : trailing_zeros w64 (get_or words at 0) < 64 = low.0 in
    record {
      inside = omega arith;
      one = bit_of_word words at (trailing_zeros w64 (get_or words at 0)) within ∙ low.1;
      least = λ q l. ⊎_elim
          (λ (before : q / 64 < at). zero_bit words q (zeros (q / 64) before))
          (λ (after : at ≤ q / 64).
          let same : q / 64 ≡ at = omega arith in
          let lower : q % 64 < trailing_zeros w64 (get_or words at 0) = omega arith in
          ap (λ (k : ℕ). bit_at (get_or words k 0) (q % 64)) same ∙ low.2 (q % 64) lower)
          (cases_lt (q / 64) at);
    }

highest : (a j : ℕ) → 2 ^ j ≤ a → a < 2 ^ suc j → bit_at a j ≡ 1
highest a j low high =
    let P : ℕ → Type 0 = λ k. a < 2 ^ k in
    let less : a / 2 ^ j < 2 = shr_below a 1 j (subst P (omega arith) high) in
    let more : 1 ≤ a / 2 ^ j = le-div 1 a (2 ^ j) (pow_pos j) (omega arith) in
    let one : a / 2 ^ j ≡ 1 = omega arith in
    ap (λ (q : ℕ). q % 2) one

pub last_in : (words : List ℕ) (at : ℕ) → at < length words → ((k : ℕ) → at + 1 ≤ k → get_or words k 0 ≡ 0)
    → (get_or words at 0 ≡ 0 → ⊥) → get_or words at 0 < 2 ^ 64
    → IsLastOne words (64 * at + (63 - leading_zeros w64 (get_or words at 0)))
last_in words at room zeros some fits =
    let top = leading_top 64 (get_or words at 0) (omega arith) fits in
    let j : ℕ = top.0 in
    let place : 63 - leading_zeros w64 (get_or words at 0) ≡ j = omega arith in
    let within : j < 64 = omega arith in
    let high : get_or words at 0 < 2 ^ suc j = top.3 in
    let P : ℕ → Type 0 = λ r. IsLastOne words (64 * at + r) in
    subst P (sym place) record {
      inside = omega arith;
      one = bit_of_word words at j within ∙ highest (get_or words at 0) j top.2 high;
      greatest = λ q l. ⊎_elim
          (λ (before : q / 64 < at + 1).
          let same : q / 64 ≡ at = omega arith in
          let higher : suc j ≤ q % 64 = omega arith in
          ap (λ (k : ℕ). bit_at (get_or words k 0) (q % 64)) same
          ∙ bit_at_above (get_or words at 0) (suc j) (q % 64) high higher)
          (λ (after : at + 1 ≤ q / 64). zero_bit words q (zeros (q / 64) after))
          (cases_lt (q / 64) (at + 1));
    }

pub has_one : (words : List ℕ) (p : ℕ) → bit_of words p ≡ 1 → HasNoOne words → ⊥
has_one words p one none = let zero_there = none p in omega arith

-- ---- each place that is 1 in one is 1 in the other
word_covered : (a b i : ℕ) → b < 2 ^ 64 → i < 64 → bit_and a (bit_not w64 b) ≡ 0 → bit_at a i ≡ 1
    → bit_at b i ≡ 1
word_covered a b i fits l h one =
    let both : min (bit_at a i) (bit_at (bit_not w64 b) i) ≡ 0 = sym (bit_at_and a (bit_not w64 b) i)
    ∙ ap (λ (n : ℕ). bit_at n i) h ∙ bit_at-zero i in
    let turned : bit_at (bit_not w64 b) i ≡ 1 - bit_at b i = bit_at_not w64 b i fits l in
    let small : bit_at b i < 2 = bit_at-lt b i in
    omega arith

pub all_covered : (inner outer : List ℕ) (n : ℕ) → length inner ≤ n → ((k : ℕ) → get_or outer k 0 < 2 ^ 64)
    → ((k : ℕ) → k < n → bit_and (get_or inner k 0) (bit_not w64 (get_or outer k 0)) ≡ 0) → IsSubset inner outer
all_covered inner outer n long fits covered p one =
    ⊎_elim
    (λ (inside : p / 64 < n). word_covered (get_or inner (p / 64) 0) (get_or outer (p / 64) 0) (p % 64) (fits (p / 64)) (omega arith) (covered (p / 64) inside) one)
    (λ (past : n ≤ p / 64). let none = zero_bit inner p (get_or_past inner (p / 64) 0 (omega arith)) in absurd (omega arith))
    (cases_lt (p / 64) n)

pub not_covered : (inner outer : List ℕ) (at : ℕ) → get_or inner at 0 < 2 ^ 64 → get_or outer at 0 < 2 ^ 64
    → (bit_and (get_or inner at 0) (bit_not w64 (get_or outer at 0)) ≡ 0 → ⊥) → IsSubset inner outer → ⊥
not_covered inner outer at fi fo some subset =
    let a : ℕ = get_or inner at 0 in
    let b : ℕ = get_or outer at 0 in
    let n : ℕ = bit_and a (bit_not w64 b) in
    let low = bit_at-trailing_zeros w64 n (omega arith) (omega (arith, and_le_l a (bit_not w64 b))) in
    let i : ℕ = trailing_zeros w64 n in
    let within : i < 64 = low.0 in
    let both : min (bit_at a i) (bit_at (bit_not w64 b) i) ≡ 1 = sym (bit_at_and a (bit_not w64 b) i) ∙ low.1 in
    let turned : bit_at (bit_not w64 b) i ≡ 1 - bit_at b i = bit_at_not w64 b i fo within in
    let small : bit_at a i < 2 = bit_at-lt a i in
    let one : bit_at a i ≡ 1 = omega arith in
    let there = sym (bit_of_word outer at i within)
    ∙ subset (64 * at + i) (bit_of_word inner at i within ∙ one) in
    omega arith
