-- The masks of a word, bit by bit.
use Rattle.std.proofs.Common.{◌≡◌, ℕ, ◌-◌, ◌*◌, ◌/◌, ◌%◌, ◌^◌, ◌<◌, Bool, true, false, cond, not, refl, arith, ap, ◌∙◌, inl, inr, w64}
use Rattle.std.specs.Prelude.{ℤ, pos, ◌<ℤ◌, ◌≤ℤ◌}
use Rattle.std.specs.Int.{bit_at}
use Rattle.std.specs.Ordering.{int_eq}
use Rattle.std.proofs.lemmas.Bool.{cases_eq, cases_lt}
use Rattle.std.proofs.lemmas.Int.{ints}
use Rattle.std.proofs.lemmas.Nat.{one_shl}
use Rattle.std.proofs.lemmas.Nat.Bits.{bit_at_not, bit_at_ones, bit_at_ones_above, bit_at-pow_same, bit_at-pow_other, bit_at_mask_inside, bit_at_mask_below, ones_shr, ones_shl}
use Rattle.sm_kinds.specs.declared.literal.Test.TheVariants.{AtMost, AtLeast, Equal, Unequal}
use Rattle.sm_kinds.specs.Literals.{passes_test}

abbrev bit : Bool → ℕ
bit b = cond b 1 0

if_true : (b : Bool) (n : ℕ) → b ≡ true → n ≡ 1 → n ≡ bit b
if_true b n e h = rw e h

if_false : (b : Bool) (n : ℕ) → b ≡ false → n ≡ 0 → n ≡ bit b
if_false b n e h = rw e h

pub all_ones : (b : Bool) (i : ℕ) → i < 64 → b ≡ true → bit_at 18446744073709551615 i ≡ bit b
all_ones b i l e = if_true b (bit_at 18446744073709551615 i) e (bit_at_ones 64 i l)

pub after_at_least : (b : ℤ) (i : ℕ) → b <ℤ pos 0 → i < 64 → bit_at 18446744073709551615 i ≡ bit (passes_test AtLeast b (pos i))
after_at_least b i before l = all_ones (passes_test AtLeast b (pos i)) i l (grind (arith, ints))

pub before_at_most : (b : ℤ) (i : ℕ) → pos 64 ≤ℤ b → i < 64 → bit_at 18446744073709551615 i ≡ bit (passes_test AtMost b (pos i))
before_at_most b i past l = all_ones (passes_test AtMost b (pos i)) i l (grind (arith, ints))

pub after_unequal : (b : ℤ) (i : ℕ) → b <ℤ pos 0 → i < 64 → bit_at 18446744073709551615 i ≡ bit (passes_test Unequal b (pos i))
after_unequal b i before l = all_ones (passes_test Unequal b (pos i)) i l (grind (arith, ints))

pub before_unequal : (b : ℤ) (i : ℕ) → pos 64 ≤ℤ b → i < 64 → bit_at 18446744073709551615 i ≡ bit (passes_test Unequal b (pos i))
before_unequal b i past l = all_ones (passes_test Unequal b (pos i)) i l (grind (arith, ints))

pub mask_at_most : (k i : ℕ) → k < 64 → i < 64 → bit_at (18446744073709551615 / 2 ^ (63 - k)) i ≡ bit (passes_test AtMost (pos k) (pos i))
mask_at_most k i within l =
    let shifted = ones_shr 64 (63 - k) (omega arith) in
    elim (cases_lt k i) [
      | inl above ↦ if_false (passes_test AtMost (pos k) (pos i)) (bit_at (18446744073709551615 / 2 ^ (63 - k)) i) (grind (arith, ints)) (ap (λ (n : ℕ). bit_at n i) shifted ∙ bit_at_ones_above (64 - (63 - k)) i (omega arith))
      | inr below ↦ if_true (passes_test AtMost (pos k) (pos i)) (bit_at (18446744073709551615 / 2 ^ (63 - k)) i) (grind (arith, ints)) (ap (λ (n : ℕ). bit_at n i) shifted ∙ bit_at_ones (64 - (63 - k)) i (omega arith))
    ]

pub mask_at_least : (k i : ℕ) → k < 64 → i < 64 → bit_at (18446744073709551615 * 2 ^ k % 18446744073709551616) i ≡ bit (passes_test AtLeast (pos k) (pos i))
mask_at_least k i within l =
    let shifted = ones_shl 64 k (omega arith) in
    elim (cases_lt i k) [
      | inl below ↦ if_false (passes_test AtLeast (pos k) (pos i)) (bit_at (18446744073709551615 * 2 ^ k % 18446744073709551616) i) (grind (arith, ints)) (ap (λ (n : ℕ). bit_at n i) shifted ∙ bit_at_mask_below k 64 i below)
      | inr above ↦ if_true (passes_test AtLeast (pos k) (pos i)) (bit_at (18446744073709551615 * 2 ^ k % 18446744073709551616) i) (grind (arith, ints)) (ap (λ (n : ℕ). bit_at n i) shifted ∙ bit_at_mask_inside k 64 i above l)
    ]

power_small : (k : ℕ) → k < 64 → 1 * 2 ^ k % 18446744073709551616 ≡ 2 ^ k
power_small k within = one_shl k 64 within

pub mask_equal : (k i : ℕ) → k < 64 → i < 64 → bit_at (1 * 2 ^ k % 18446744073709551616) i ≡ bit (passes_test Equal (pos k) (pos i))
mask_equal k i within l =
    elim (cases_eq i k) [
      | inl same ↦ if_true (passes_test Equal (pos k) (pos i)) (bit_at (1 * 2 ^ k % 18446744073709551616) i) (grind (arith, ints)) (ap (λ (n : ℕ). bit_at n i) (power_small k within) ∙ ap (λ (j : ℕ). bit_at (2 ^ k) j) same ∙ bit_at-pow_same k)
      | inr other ↦ if_false (passes_test Equal (pos k) (pos i)) (bit_at (1 * 2 ^ k % 18446744073709551616) i) (grind (arith, ints)) (ap (λ (n : ℕ). bit_at n i) (power_small k within) ∙ bit_at-pow_other k i other)
    ]

turned : (b : Bool) → 1 - bit b ≡ bit (not b)
turned true = refl
turned false = refl

pub mask_unequal : (k i : ℕ) → k < 64 → i < 64 → bit_at (18446744073709551615 - 1 * 2 ^ k % 18446744073709551616) i ≡ bit (passes_test Unequal (pos k) (pos i))
mask_unequal k i within l =
    let small : 1 * 2 ^ k % 18446744073709551616 < 2 ^ 64 = omega arith in
    bit_at_not w64 (1 * 2 ^ k % 18446744073709551616) i small l
    ∙ ap (λ (n : ℕ). 1 - n) (mask_equal k i within l)
    ∙ turned (int_eq (pos i) (pos k))
