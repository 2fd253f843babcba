-- Blocks of words whose lanes are joined by `or`.
use Rattle.std.proofs.Common.{◌≡◌, ℕ, zero, suc, ◌+◌, ◌<◌, ◌≤◌, List, [], ◌∷◌, length, get_or, refl, sym, ap, ◌∙◌, arith, w64}
use Rattle.std.specs.Prelude.{bit_and, bit_or, map, IsTrue, nat_eq}
use Rattle.std.specs.Int.{bit_not}
use Rattle.std.proofs.lemmas.Nat.{le_or_l, le_or_r}
use Rattle.std.proofs.lemmas.Bool.Decides.{nat_tests}
use Rattle.std.proofs.lemmas.List.{get_or-map, length-map}
use Rattle.std.proofs.lemmas.Simd.{length-chunk, get_or-chunk, get_or-zip2}
use lib.Lanes.{zip2, chunk, fold_l}

-- where the `or` of all lanes is 0, each lane is
zero_from_or : (a : ℕ) (xs : List ℕ) → fold_l bit_or a xs ≡ 0 → (a ≡ 0) × ((k : ℕ) → get_or xs k 0 ≡ 0)
zero_from_or a [] h = (h, λ k. refl)
zero_from_or a (x ∷ xs) h =
    let rest = zero_from_or (bit_or a x) xs h in
    let joined : bit_or a x ≡ 0 = rest.0 in
    let left : a ≡ 0 = omega (arith, le_or_l a x) in
    let head : x ≡ 0 = omega (arith, le_or_r a x) in
    (left, at head rest.1)
  where
    at : x ≡ 0 → ((k : ℕ) → get_or xs k 0 ≡ 0) → (k : ℕ) → get_or (x ∷ xs) k 0 ≡ 0
    at e f zero = e
    at e f (suc k) = f k

is_zero : (n : ℕ) → IsTrue (nat_eq n 0) → n ≡ 0
is_zero n h = grind (arith, nat_tests)

pub lanes_zero : (xs : List ℕ) → IsTrue (nat_eq (fold_l bit_or 0 xs) 0) → (k : ℕ) → get_or xs k 0 ≡ 0
lanes_zero xs h = (zero_from_or 0 xs (is_zero _ h)).1

pub words_zero : (i n : ℕ) (xs : List ℕ) → IsTrue (nat_eq (fold_l bit_or 0 (chunk i n xs)) 0) → (k : ℕ) → k < n
    → get_or xs (i + k) 0 ≡ 0
words_zero i n xs h k l = sym (get_or-chunk i n xs k 0 l) ∙ lanes_zero (chunk i n xs) h k

pub nothing_missing : (i n : ℕ) (xs ys : List ℕ) → i + n ≤ length xs → i + n ≤ length ys
    → IsTrue (nat_eq (fold_l bit_or 0 (zip2 bit_and (chunk i n xs) (map (bit_not w64) (chunk i n ys)))) 0)
    → (k : ℕ) → k < n → bit_and (get_or xs (i + k) 0) (bit_not w64 (get_or ys (i + k) 0)) ≡ 0
nothing_missing i n xs ys rx ry h k l =
    let lx = length-chunk i n xs rx in
    let ly = length-chunk i n ys ry in
    sym
    (get_or-zip2 bit_and (chunk i n xs) (map (bit_not w64) (chunk i n ys)) k 0 0 0 (omega arith) (omega (arith, length-map (chunk i n ys) (bit_not w64)))
    ∙ ap (λ (y : ℕ). bit_and (get_or (chunk i n xs) k 0) y) (get_or-map (bit_not w64) (chunk i n ys) k 0 0 (omega arith))
    ∙ ap (λ (x : ℕ). bit_and x (bit_not w64 (get_or (chunk i n ys) k 0))) (get_or-chunk i n xs k 0 l)
    ∙ ap (λ (y : ℕ). bit_and (get_or xs (i + k) 0) (bit_not w64 y)) (get_or-chunk i n ys k 0 l))
    ∙ lanes_zero (zip2 bit_and (chunk i n xs) (map (bit_not w64) (chunk i n ys))) h k
