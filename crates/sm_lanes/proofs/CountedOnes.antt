-- The ones of words, counted place by place and word by word.
use Rattle.std.proofs.Common.{◌≡◌, ℕ, zero, suc, ◌+◌, ◌-◌, ◌*◌, ◌/◌, ◌%◌, ◌^◌, ◌<◌, ◌≤◌, List, [], ◌∷◌, length, get_or, take, drop, refl, sym, ap, ◌∙◌, subst, arith, add-zero, add-one, zero-add}
use Rattle.std.specs.Prelude.{Bool, cond, nat_eq, count_by, sum_by, count_ones}
use Rattle.std.specs.Int.{bit_at}
use Rattle.std.specs.List.{range_with_len}
use Rattle.std.proofs.lemmas.Bool.Decides.{nat_tests}
use Rattle.std.proofs.lemmas.List.{take-take, drop-take, take_rest}
use Rattle.std.proofs.lemmas.List.FromFn.{length-range_with_len}
use Rattle.std.proofs.lemmas.List.Sums.{sum_by-cons, sum_by-take-drop, sum_by-take-le, count_by-le-length}
use Rattle.std.proofs.lemmas.Nat.{ones_le_self, shr_below}
use Rattle.std.proofs.lemmas.Nat.Bits.{bit_at-suc, bit_at_lowest}
use lib.Count.{ones_step}
use lib.Lanes.{chunk}
use Rattle.sm_lanes.specs.Bits.{bit_of, ones_of}

-- how many of the n numbers from a on pass a test
abbrev counted : (ℕ → Bool) → ℕ → ℕ → ℕ
counted p a n = count_by p (range_with_len a n)

counted_suc : (p : ℕ → Bool) (a n : ℕ) → counted p a (suc n) ≡ cond (p a) 1 0 + counted p (a + 1) n
counted_suc p a n = sum_by-cons (λ (x : ℕ). cond (p x) 1 0) a (range_with_len (a + 1) n)

counted_split : (p : ℕ → Bool) (m a n : ℕ) → counted p a (m + n) ≡ counted p a m + counted p (a + m) n
counted_split p zero a n =
    let left : counted p a (zero + n) ≡ counted p a n = ap (λ (k : ℕ). counted p a k) (zero-add n) in
    let right : counted p (a + zero) n ≡ counted p a n = ap (λ (b : ℕ). counted p b n) (add-zero a) in
    omega arith
counted_split p (suc m) a n =
    let longer : suc m + n ≡ suc (m + n) = omega arith in
    let further : a + 1 + m ≡ a + suc m = omega arith in
    let whole : counted p a (suc m + n) ≡ cond (p a) 1 0 + counted p (a + 1) (m + n) =
    ap (λ (k : ℕ). counted p a k) longer ∙ counted_suc p a (m + n) in
    let rest = counted_split p m (a + 1) n in
    let first = counted_suc p a m in
    let same : counted p (a + 1 + m) n ≡ counted p (a + suc m) n = ap (λ (b : ℕ). counted p b n) further in
    omega arith

counted_same : (p q : ℕ → Bool) (n a b : ℕ) → ((i : ℕ) → i < n → p (a + i) ≡ q (b + i))
    → counted p a n ≡ counted q b n
counted_same p q zero a b h = refl
counted_same p q (suc n) a b h =
    let head : p a ≡ q b = ap p (sym (add-zero a)) ∙ h 0 (omega arith) ∙ ap q (add-zero b) in
    let tail : (i : ℕ) → i < n → p (a + 1 + i) ≡ q (b + 1 + i) = λ i l.
    let on : a + 1 + i ≡ a + (i + 1) = omega arith in
    let back : b + (i + 1) ≡ b + 1 + i = omega arith in
    ap p on ∙ h (i + 1) (omega arith) ∙ ap q back in
    let rest = counted_same p q n (a + 1) (b + 1) tail in
    let first : cond (p a) 1 0 ≡ cond (q b) 1 0 = ap (λ (t : Bool). cond t 1 0) head in
    counted_suc p a n ∙ ap (λ (x : ℕ). x + counted p (a + 1) n) first ∙ ap (λ (x : ℕ). cond (q b) 1 0 + x) rest
    ∙ sym (counted_suc q b n)

low_bit : (w : ℕ) → cond (nat_eq (bit_at w 0) 1) 1 0 ≡ w % 2
low_bit w = let e = bit_at_lowest w in let l : w % 2 < 2 = omega arith in grind (arith, nat_tests)

-- the ones of one word
word_ones : (n w : ℕ) → w < 2 ^ n → counted (λ i. nat_eq (bit_at w i) 1) 0 n ≡ count_ones w
word_ones zero w l = let few = ones_le_self w in omega arith
word_ones (suc n) w l =
    let P : ℕ → Type 0 = λ k. w < 2 ^ k in
    let half : w / 2 < 2 ^ n = shr_below w n 1 (subst P (sym (add-one n)) l) in
    let rest = word_ones n (w / 2) half in
    let next : (i : ℕ) → i < n → nat_eq (bit_at w (0 + 1 + i)) 1 ≡ nat_eq (bit_at (w / 2) (0 + i)) 1 = λ i m.
    let on : 0 + 1 + i ≡ suc i = omega arith in
    let back : i ≡ 0 + i = omega arith in
    ap (λ (k : ℕ). nat_eq (bit_at w k) 1) on ∙ ap (λ (b : ℕ). nat_eq b 1) (bit_at-suc w i)
    ∙ ap (λ (k : ℕ). nat_eq (bit_at (w / 2) k) 1) back in
    let tail : counted (λ i. nat_eq (bit_at w i) 1) (0 + 1) n ≡ counted (λ i. nat_eq (bit_at (w / 2) i) 1) 0 n =
    counted_same (λ i. nat_eq (bit_at w i) 1) (λ i. nat_eq (bit_at (w / 2) i) 1) n (0 + 1) 0 next in
    let first = counted_suc (λ i. nat_eq (bit_at w i) 1) 0 n in
    let low = low_bit w in
    let step : count_ones w ≡ w % 2 + count_ones (w / 2) = ones_step w in
    omega arith

-- a word and the words after it, at words of n bits
module _ (n w : ℕ) (ws : List ℕ) (e : n ≡ 64) where
  head_bit : (i : ℕ) → i < n → nat_eq (bit_of (w ∷ ws) (0 + i)) 1 ≡ nat_eq (bit_at w (0 + i)) 1
  head_bit i l =
      let word : (0 + i) / 64 ≡ 0 = omega arith in
      let within : (0 + i) % 64 ≡ 0 + i = omega arith in
      ap (λ (b : ℕ). nat_eq b 1) (ap (λ (k : ℕ). bit_at (get_or (w ∷ ws) k 0) ((0 + i) % 64)) word ∙ ap (λ (r : ℕ). bit_at w r) within)

  tail_bit : (i : ℕ) → nat_eq (bit_of (w ∷ ws) (0 + n + i)) 1 ≡ nat_eq (bit_of ws (0 + i)) 1
  tail_bit i =
      let word : (0 + n + i) / 64 ≡ suc ((0 + i) / 64) = omega arith in
      let within : (0 + n + i) % 64 ≡ (0 + i) % 64 = omega arith in
      ap (λ (b : ℕ). nat_eq b 1) (ap (λ (k : ℕ). bit_at (get_or (w ∷ ws) k 0) ((0 + n + i) % 64)) word ∙ ap (λ (r : ℕ). bit_at (get_or ws ((0 + i) / 64) 0) r) within)

  ones_cons : w < 2 ^ n → ones_of (w ∷ ws) ≡ count_ones w + ones_of ws
  ones_cons fits =
      let longer : 64 * suc (length ws) ≡ n + 64 * length ws = omega arith in
      let split = counted_split (λ p. nat_eq (bit_of (w ∷ ws) p) 1) n 0 (64 * length ws) in
      let head : counted (λ p. nat_eq (bit_of (w ∷ ws) p) 1) 0 n ≡ count_ones w =
      counted_same (λ p. nat_eq (bit_of (w ∷ ws) p) 1) (λ p. nat_eq (bit_at w p) 1) n 0 0 head_bit
      ∙ word_ones n w fits in
      let tail : counted (λ p. nat_eq (bit_of (w ∷ ws) p) 1) (0 + n) (64 * length ws) ≡ ones_of ws =
      counted_same (λ p. nat_eq (bit_of (w ∷ ws) p) 1) (λ p. nat_eq (bit_of ws p) 1) (64 * length ws) (0 + n) 0 (λ i l. tail_bit i) in
      ap (λ (k : ℕ). counted (λ p. nat_eq (bit_of (w ∷ ws) p) 1) 0 k) longer ∙ split
      ∙ ap (λ (x : ℕ). x + counted (λ p. nat_eq (bit_of (w ∷ ws) p) 1) (0 + n) (64 * length ws)) head
      ∙ ap (λ (x : ℕ). count_ones w + x) tail

-- the ones by place are those of each word, taken together
pub words_ones : (words : List ℕ) → ((k : ℕ) → get_or words k 0 < 2 ^ 64)
    → ones_of words ≡ sum_by count_ones words
words_ones [] fits = refl
words_ones (w ∷ ws) fits =
    let rest = words_ones ws (λ k. fits (suc k)) in
    let fit : w < 2 ^ 64 = fits 0 in
    ones_cons 64 w ws refl fit ∙ ap (λ (x : ℕ). count_ones w + x) rest ∙ sym (sum_by-cons count_ones w ws)

-- one block more
pub block_more : (i n : ℕ) (words : List ℕ)
    → sum_by count_ones (take (i + n) words) ≡ sum_by count_ones (take i words) + sum_by count_ones (chunk i n words)
block_more i n words =
    sym (sum_by-take-drop count_ones (take (i + n) words) i)
    ∙ ap (λ (xs : List ℕ). sum_by count_ones xs + sum_by count_ones (drop i (take (i + n) words))) (take-take i (i + n) words (omega arith))
    ∙ ap (λ (xs : List ℕ). sum_by count_ones (take i words) + sum_by count_ones xs) (drop-take i n words)

-- what is left after the last block
pub rest_more : (i : ℕ) (words : List ℕ)
    → sum_by count_ones (take i words) + sum_by count_ones (chunk i (length words - i) words) ≡ sum_by count_ones words
rest_more i words =
    ap (λ (xs : List ℕ). sum_by count_ones (take i words) + sum_by count_ones xs) (take_rest words i)
    ∙ sum_by-take-drop count_ones words i

pub ones_below : (words : List ℕ) → ((k : ℕ) → get_or words k 0 < 2 ^ 64)
    → sum_by count_ones words ≤ 64 * length words
ones_below words fits =
    let same = words_ones words fits in
    let few = count_by-le-length (λ p. nat_eq (bit_of words p) 1) (range_with_len 0 (64 * length words)) in
    let long = length-range_with_len 0 (64 * length words) in
    omega arith

pub part_below : (i : ℕ) (words : List ℕ) → ((k : ℕ) → get_or words k 0 < 2 ^ 64)
    → sum_by count_ones (take i words) ≤ 64 * length words
part_below i words fits = omega (arith, sum_by-take-le count_ones words i, ones_below words fits)
