-- Words as one row of bits: bit b of word w is place 64 * w + b.
use Rattle.std.specs.Prelude.{◌≡◌, ◌==◌, ℕ, ◌*◌, ◌/◌, ◌%◌, ◌<◌, List, length, slice_index, count_by}
use Rattle.std.specs.Int.{bit_at}
use Rattle.std.specs.List.{range_with_len}

-- each word of `new` is f of the words at its place in `old` and `other`
abbrev pub IsWordwise : (ℕ → ℕ → ℕ) → List ℕ → List ℕ → List ℕ → Type 0
IsWordwise f old other new = (k : ℕ) → k < length old → slice_index new k ≡ f (slice_index old k) (slice_index other k)

-- the bit at a place, which is 0 past the last word
abbrev pub bit_of : List ℕ → ℕ → ℕ
bit_of words p = bit_at (slice_index words (p / 64)) (p % 64)

-- all places of the words, in order
abbrev pub places : List ℕ → List ℕ
places words = range_with_len 0 (64 * length words)

-- how many places are 1
abbrev pub ones_of : List ℕ → ℕ
ones_of words = count_by (λ p. bit_of words p == 1) (places words)

-- each place that is 1 in `inner` is 1 in `outer`
abbrev pub IsSubset : List ℕ → List ℕ → Type 0
IsSubset inner outer = (p : ℕ) → bit_of inner p ≡ 1 → bit_of outer p ≡ 1

-- no place is 1
abbrev pub HasNoOne : List ℕ → Type 0
HasNoOne words = (p : ℕ) → bit_of words p ≡ 0

-- place p is 1, and none before it
pub record IsFirstOne (words : List ℕ) (p : ℕ) : Type 0 where
  pub inside : p < 64 * length words
  pub one : bit_of words p ≡ 1
  pub least : (q : ℕ) → q < p → bit_of words q ≡ 0

-- place p is 1, and none after it
pub record IsLastOne (words : List ℕ) (p : ℕ) : Type 0 where
  pub inside : p < 64 * length words
  pub one : bit_of words p ≡ 1
  pub greatest : (q : ℕ) → p < q → bit_of words q ≡ 0
