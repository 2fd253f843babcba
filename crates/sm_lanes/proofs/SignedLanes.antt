-- Lanes of signed numbers, which a vector holds as their bits.
use Rattle.std.proofs.Common.{◌≡◌, ℕ, ◌+◌, ◌<◌, ◌≤◌, ◌%◌, ◌^◌, List, length, get_or, sym, ap, ◌∙◌, subst, arith, to_z, of_z, w64}
use Rattle.std.specs.Prelude.{ℤ, pos, ◌+ℤ◌, FitsSigned, replicate, map}
use Rattle.std.proofs.lemmas.Int.{wrapping_add_is, int_wrap_fits, to_z-of_z}
use Rattle.std.proofs.lemmas.List.{get_or-map, length-map}
use Rattle.std.proofs.lemmas.Simd.{length-chunk, length-zip2, get_or-chunk, get_or-zip2, get_or-put_chunk_at, get_or-put_chunk_below, get_or-put_chunk_above, length-replicate, get_or-replicate}
use lib.Lanes.{zip2, chunk, put_chunk}

-- a lane that went into its bits and back
pub bits_back : (vs : List ℤ) (k : ℕ) → k < length vs → FitsSigned w64 (get_or vs k (pos 0))
    → get_or (map (to_z w64) (map (of_z w64) vs)) k (pos 0) ≡ get_or vs k (pos 0)
bits_back vs k l fits =
    let mid = length-map vs (of_z w64) in
    get_or-map (to_z w64) (map (of_z w64) vs) k 0 (pos 0) (omega arith)
    ∙ ap (to_z w64) (get_or-map (of_z w64) vs k (pos 0) 0 l)
    ∙ to_z-of_z w64 (get_or vs k (pos 0)) fits

-- a lane of a block that was loaded
pub loaded : (i n : ℕ) (xs : List ℤ) → i + n ≤ length xs
    → ((k : ℕ) → k < n → FitsSigned w64 (get_or xs (i + k) (pos 0)))
    → (k : ℕ) → k < n → get_or (map (to_z w64) (map (of_z w64) (chunk i n xs))) k (pos 0) ≡ get_or xs (i + k) (pos 0)
loaded i n xs room fits k l =
    let long = length-chunk i n xs room in
    let same = get_or-chunk i n xs k (pos 0) l in
    let P : ℤ → Type 0 = λ x. FitsSigned w64 x in
    bits_back (chunk i n xs) k (omega arith) (subst P (sym same) (fits k l)) ∙ same

lane_sum : (x b : ℤ) → FitsSigned w64 x → FitsSigned w64 b → FitsSigned w64 (x +ℤ b)
    → to_z w64 ((of_z w64 x + of_z w64 b) % 2 ^ 64) ≡ x +ℤ b
lane_sum x b f g h = wrapping_add_is w64 x b f g ∙ int_wrap_fits w64 (x +ℤ b) h

-- one amount that is added to each lane, and stored
module _ (i n : ℕ) (xs vs : List ℤ) (b : ℤ) (long : length vs ≡ n) (room : i + n ≤ length xs) where
  abbrev lanes : List ℕ
  lanes = zip2 (λ x y. (x + y) % 2 ^ 64) (map (of_z w64) vs) (replicate n (of_z w64 b))

  in_length : length (map (of_z w64) vs) ≡ n
  in_length = length-map vs (of_z w64) ∙ long

  lanes_length : length lanes ≡ n
  lanes_length = length-zip2 (λ x y. (x + y) % 2 ^ 64) (map (of_z w64) vs) (replicate n (of_z w64 b)) (in_length ∙ sym (length-replicate n (of_z w64 b))) ∙ in_length

  out_length : length (map (to_z w64) lanes) ≡ n
  out_length = length-map lanes (to_z w64) ∙ lanes_length

  pub sum_inside : FitsSigned w64 b → ((k : ℕ) → k < n → FitsSigned w64 (get_or xs (i + k) (pos 0)))
      → ((k : ℕ) → k < n → FitsSigned w64 (get_or xs (i + k) (pos 0) +ℤ b)) → ((k : ℕ) → k < n → get_or vs k (pos 0) ≡ get_or xs (i + k) (pos 0))
      → (k : ℕ) → k < n → get_or (put_chunk i xs (map (to_z w64) lanes)) (i + k) (pos 0) ≡ get_or xs (i + k) (pos 0) +ℤ b
  sum_inside fb fx fs same k l =
      let out = out_length in let mid = lanes_length in let short = in_length in
      let lr = length-replicate n (of_z w64 b) in
      get_or-put_chunk_at i xs (map (to_z w64) lanes) k (pos 0) (omega arith) (omega arith)
      ∙ get_or-map (to_z w64) lanes k 0 (pos 0) (omega arith)
      ∙ ap (to_z w64) (get_or-zip2 (λ x y. (x + y) % 2 ^ 64) (map (of_z w64) vs) (replicate n (of_z w64 b)) k 0 0 0 (omega arith) (omega arith)
      ∙ ap (λ (x : ℕ). (x + get_or (replicate n (of_z w64 b)) k 0) % 2 ^ 64) (get_or-map (of_z w64) vs k (pos 0) 0 (omega arith) ∙ ap (of_z w64) (same k l))
      ∙ ap (λ (y : ℕ). (of_z w64 (get_or xs (i + k) (pos 0)) + y) % 2 ^ 64) (get_or-replicate n k (of_z w64 b) 0 l))
      ∙ lane_sum (get_or xs (i + k) (pos 0)) b (fx k l) fb (fs k l)

  pub sum_below : (k : ℕ) → k < i
      → get_or (put_chunk i xs (map (to_z w64) lanes)) k (pos 0) ≡ get_or xs k (pos 0)
  sum_below k l = get_or-put_chunk_below i xs (map (to_z w64) lanes) k (pos 0) l

  pub sum_above : (k : ℕ) → i + n ≤ k
      → get_or (put_chunk i xs (map (to_z w64) lanes)) k (pos 0) ≡ get_or xs k (pos 0)
  sum_above k l = let out = out_length in get_or-put_chunk_above i xs (map (to_z w64) lanes) k (pos 0) (omega arith)
