-- A block of lanes that is loaded, computed lane by lane and stored again.
use Rattle.std.proofs.Common.{◌≡◌, ℕ, ◌+◌, ◌<◌, ◌≤◌, List, length, get_or, sym, ap, ◌∙◌, arith}
use Rattle.std.proofs.lemmas.Simd.{length-chunk, length-zip2, get_or-chunk, get_or-zip2, get_or-put_chunk_at, get_or-put_chunk_below, get_or-put_chunk_above}
use lib.Lanes.{zip2, chunk, put_chunk}

module _ (f : ℕ → ℕ → ℕ) (i n : ℕ) (xs ys : List ℕ) (rx : i + n ≤ length xs) (ry : i + n ≤ length ys) where
  abbrev block : List ℕ
  block = zip2 f (chunk i n xs) (chunk i n ys)

  block_length : length block ≡ n
  block_length = length-zip2 f (chunk i n xs) (chunk i n ys) (length-chunk i n xs rx ∙ sym (length-chunk i n ys ry)) ∙ length-chunk i n xs rx

  pub stored_inside : (k : ℕ) → k < n
      → get_or (put_chunk i xs block) (i + k) 0 ≡ f (get_or xs (i + k) 0) (get_or ys (i + k) 0)
  stored_inside k l =
      let long = block_length in
      let lx = length-chunk i n xs rx in
      let ly = length-chunk i n ys ry in
      get_or-put_chunk_at i xs block k 0 (omega arith) (omega arith)
      ∙ get_or-zip2 f (chunk i n xs) (chunk i n ys) k 0 0 0 (omega arith) (omega arith)
      ∙ ap (λ (x : ℕ). f x (get_or (chunk i n ys) k 0)) (get_or-chunk i n xs k 0 l)
      ∙ ap (λ (y : ℕ). f (get_or xs (i + k) 0) y) (get_or-chunk i n ys k 0 l)

  pub stored_below : (k : ℕ) → k < i → get_or (put_chunk i xs block) k 0 ≡ get_or xs k 0
  stored_below k l = get_or-put_chunk_below i xs block k 0 l

  pub stored_above : (k : ℕ) → i + n ≤ k → get_or (put_chunk i xs block) k 0 ≡ get_or xs k 0
  stored_above k l = let long = block_length in get_or-put_chunk_above i xs block k 0 (omega arith)
