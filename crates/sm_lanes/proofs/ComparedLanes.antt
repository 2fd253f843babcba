-- Lanes of signed numbers that are compared.
use Rattle.std.proofs.Common.{◌≡◌, ℕ, ◌+◌, ◌-◌, ◌<◌, ◌≤◌, ◌%◌, ◌^◌, ◌/◌, List, length, get_or, sym, ap, ◌∙◌, subst, ⊎_elim, arith, to_z, of_z, w64, refl, inl, inr}
use Rattle.std.specs.Prelude.{ℤ, pos, ◌≤ℤ◌, FitsSigned, replicate, map, Bool, true, false, IsTrue, cond, nat_eq}
use mathlib.Core.Bool.{not}
use Rattle.sm_lanes.specs.Numbers.{IsGreater}
use Rattle.std.proofs.lemmas.Int.{to_z-of_z, ints}
use Rattle.std.proofs.lemmas.Bool.Decides.{nat_tests}
use Rattle.std.proofs.lemmas.List.{get_or-map, length-map}
use Rattle.std.proofs.lemmas.Simd.{tops_compared, mask_l-mod, bit_mask_l, length-zip2, get_or-zip2, length-replicate, get_or-replicate, length-sel_l, get_or-sel_l}
use Rattle.std.proofs.Math.Nat.{zero-div, zero-mod}
use lib.Signed.{lt_z}
use lib.Lanes.{zip2, mask_l, sel_l, top}

-- an empty mask has no bit
empty_bits : (ms : List Bool) (k : ℕ) → mask_l ms ≡ 0 → get_or ms k false ≡ false
empty_bits ms k e = by (get_or ms k false) (sym (bit_mask_l ms k) ∙ ap (λ (m : ℕ). m / 2 ^ k % 2) e ∙ ap (λ (m : ℕ). m % 2) (zero-div (2 ^ k)) ∙ zero-mod 2)
  where
    by : (b : Bool) → ◌≡◌ {A = ℕ} (cond b 1 0) 0 → b ≡ false
    by true h = absurd (omega arith)
    by false h = refl

is_zero : (m : ℕ) → IsTrue (not (not (nat_eq m 0))) → m ≡ 0
is_zero m h = grind (arith, nat_tests)

-- whether each lane of the first is below the lane of the second
abbrev below : List ℕ → List ℕ → List Bool
below = zip2 (λ x y. lt_z (to_z w64 x) (to_z w64 y))

abbrev marked : List ℕ → List ℕ → List Bool
marked us ws = map (top 63) (zip2 (λ x y. cond (lt_z (to_z w64 x) (to_z w64 y)) (2 ^ 64 - 1) 0) us ws)

marked_below : (us ws : List ℕ) → marked us ws ≡ below us ws
marked_below us ws = tops_compared w64 (λ x y. lt_z (to_z w64 x) (to_z w64 y)) us ws

lane_bits : (vs : List ℤ) (k : ℕ) → k < length vs → FitsSigned w64 (get_or vs k (pos 0))
    → to_z w64 (get_or (map (of_z w64) vs) k 0) ≡ get_or vs k (pos 0)
lane_bits vs k l f = ap (to_z w64) (get_or-map (of_z w64) vs k (pos 0) 0 l)
    ∙ to_z-of_z w64 (get_or vs k (pos 0)) f

at_most : (x b : ℤ) → lt_z b x ≡ false → x ≤ℤ b
at_most x b h = omega (arith, ints)

-- where no lane is marked, none is above the bound
module _ (n : ℕ) (vs : List ℤ) (b : ℤ) (long : length vs ≡ n) (few : n ≤ 64) where
  abbrev bounds : List ℕ
  bounds = replicate n (of_z w64 b)

  abbrev loads : List ℕ
  loads = map (of_z w64) vs

  loads_length : length loads ≡ n
  loads_length = length-map vs (of_z w64) ∙ long

  tests_length : length (below bounds loads) ≡ n
  tests_length = length-zip2 (λ x y. lt_z (to_z w64 x) (to_z w64 y)) bounds loads (length-replicate n (of_z w64 b) ∙ sym loads_length) ∙ length-replicate n (of_z w64 b)

  pub none_above : FitsSigned w64 b → ((k : ℕ) → k < n → FitsSigned w64 (get_or vs k (pos 0)))
      → IsTrue (not (not (nat_eq (mask_l (marked bounds loads) % 2 ^ 64) 0)))
      → (k : ℕ) → k < n → get_or vs k (pos 0) ≤ℤ b
  none_above fb fx h k l =
      let all = tests_length in let mid = loads_length in
      let lr = length-replicate n (of_z w64 b) in
      let zero_mask : mask_l (below bounds loads) ≡ 0 = sym (mask_l-mod (below bounds loads) 64 (omega arith))
      ∙ ap (λ (ms : List Bool). mask_l ms % 2 ^ 64) (sym (marked_below bounds loads)) ∙ is_zero _ h in
      let off = empty_bits (below bounds loads) k zero_mask in
      let left : to_z w64 (get_or bounds k 0) ≡ b = ap (to_z w64) (get_or-replicate n k (of_z w64 b) 0 l)
      ∙ to_z-of_z w64 b fb in
      let right : to_z w64 (get_or loads k 0) ≡ get_or vs k (pos 0) = lane_bits vs k (omega arith) (fx k l) in
      at_most (get_or vs k (pos 0)) b
      (ap (λ (y : ℤ). lt_z y (get_or vs k (pos 0))) (sym left)
      ∙ ap (λ (y : ℤ). lt_z (to_z w64 (get_or bounds k 0)) y) (sym right)
      ∙ sym (get_or-zip2 (λ x y. lt_z (to_z w64 x) (to_z w64 y)) bounds loads k 0 0 false (omega arith) (omega arith)) ∙ off)

chosen_greater : (t : Bool) (a b : ℤ) → lt_z a b ≡ t → IsGreater a b (cond t b a)
chosen_greater true a b e = record { first = omega (arith, ints); second = omega (arith, ints); reached = inr refl }
chosen_greater false a b e = record { first = omega (arith, ints); second = omega (arith, ints); reached = inl refl }

pub greater_of : (a b m : ℤ) → m ≡ cond (lt_z a b) b a → IsGreater a b m
greater_of a b m e = let P : ℤ → Type 0 = λ x. IsGreater a b x in subst P (sym e) (chosen_greater (lt_z a b) a b refl)

fits_greater : (a b m : ℤ) → IsGreater a b m → FitsSigned w64 a → FitsSigned w64 b → FitsSigned w64 m
fits_greater a b m g fa fb =
    let P : ℤ → Type 0 = λ x. FitsSigned w64 x in
    ⊎_elim (λ (e : m ≡ a). subst P (sym e) fa) (λ (e : m ≡ b). subst P (sym e) fb) g.reached

-- the greater of each two lanes
module _ (n : ℕ) (us ws : List ℤ) (la : length us ≡ n) (lb : length ws ≡ n) where
  abbrev lows : List ℕ
  lows = map (of_z w64) us

  abbrev highs : List ℕ
  highs = map (of_z w64) ws

  abbrev raised : List ℤ
  raised = map (to_z w64) (sel_l (marked lows highs) highs lows)

  lows_length : length lows ≡ n
  lows_length = length-map us (of_z w64) ∙ la

  highs_length : length highs ≡ n
  highs_length = length-map ws (of_z w64) ∙ lb

  marks_length : length (marked lows highs) ≡ n
  marks_length = ap length (marked_below lows highs)
      ∙ length-zip2 (λ x y. lt_z (to_z w64 x) (to_z w64 y)) lows highs (lows_length ∙ sym highs_length)
      ∙ lows_length

  chosen_length : length (sel_l (marked lows highs) highs lows) ≡ n
  chosen_length = length-sel_l (marked lows highs) highs lows (marks_length ∙ sym highs_length) (marks_length ∙ sym lows_length) ∙ marks_length

  pub raised_length : length raised ≡ n
  raised_length = length-map (sel_l (marked lows highs) highs lows) (to_z w64) ∙ chosen_length

  pick : (t : Bool) (x y : ℕ) → to_z w64 (cond t y x) ≡ cond t (to_z w64 y) (to_z w64 x)
  pick true x y = refl
  pick false x y = refl

  pub raised_lane : ((k : ℕ) → k < n → FitsSigned w64 (get_or us k (pos 0)))
      → ((k : ℕ) → k < n → FitsSigned w64 (get_or ws k (pos 0)))
      → (k : ℕ) → k < n → get_or raised k (pos 0) ≡ cond (lt_z (get_or us k (pos 0)) (get_or ws k (pos 0))) (get_or ws k (pos 0)) (get_or us k (pos 0))
  raised_lane fa fb k l =
      let m = marks_length in let c = chosen_length in let lo = lows_length in let hi = highs_length in
      let low : to_z w64 (get_or lows k 0) ≡ get_or us k (pos 0) = lane_bits us k (omega arith) (fa k l) in
      let high : to_z w64 (get_or highs k 0) ≡ get_or ws k (pos 0) = lane_bits ws k (omega arith) (fb k l) in
      let mark : get_or (marked lows highs) k false ≡ lt_z (get_or us k (pos 0)) (get_or ws k (pos 0)) =
      ap (λ (ms : List Bool). get_or ms k false) (marked_below lows highs)
      ∙ get_or-zip2 (λ x y. lt_z (to_z w64 x) (to_z w64 y)) lows highs k 0 0 false (omega arith) (omega arith)
      ∙ ap (λ (x : ℤ). lt_z x (to_z w64 (get_or highs k 0))) low
      ∙ ap (λ (y : ℤ). lt_z (get_or us k (pos 0)) y) high in
      get_or-map (to_z w64) (sel_l (marked lows highs) highs lows) k 0 (pos 0) (omega arith)
      ∙ ap (to_z w64) (get_or-sel_l (marked lows highs) highs lows k 0 (omega arith) (omega arith) (omega arith))
      ∙ pick (get_or (marked lows highs) k false) (get_or lows k 0) (get_or highs k 0)
      ∙ ap (λ (t : Bool). cond t (to_z w64 (get_or highs k 0)) (to_z w64 (get_or lows k 0))) mark
      ∙ ap (λ (y : ℤ). cond (lt_z (get_or us k (pos 0)) (get_or ws k (pos 0))) y (to_z w64 (get_or lows k 0))) high
      ∙ ap (λ (x : ℤ). cond (lt_z (get_or us k (pos 0)) (get_or ws k (pos 0))) (get_or ws k (pos 0)) x) low

  -- the same, where the second are the n numbers from the i-th on
  pub greater_lane : (i : ℕ) (xs : List ℤ) → ((k : ℕ) → k < n → get_or ws k (pos 0) ≡ get_or xs (i + k) (pos 0))
      → ((k : ℕ) → k < n → FitsSigned w64 (get_or us k (pos 0))) → ((k : ℕ) → k < n → FitsSigned w64 (get_or xs (i + k) (pos 0)))
      → (k : ℕ) → k < n → IsGreater (get_or us k (pos 0)) (get_or xs (i + k) (pos 0)) (get_or raised k (pos 0))
  greater_lane i xs same fu fx k l =
      let P : ℤ → Type 0 = λ x. FitsSigned w64 x in
      let Q : ℤ → Type 0 = λ x. IsGreater (get_or us k (pos 0)) x (get_or raised k (pos 0)) in
      let fw : (j : ℕ) → j < n → FitsSigned w64 (get_or ws j (pos 0)) = λ j m. subst P (sym (same j m)) (fx j m) in
      subst Q (same k l) (greater_of (get_or us k (pos 0)) (get_or ws k (pos 0)) (get_or raised k (pos 0)) (raised_lane fu fw k l))

  pub greater_fits : (i : ℕ) (xs : List ℤ) → ((k : ℕ) → k < n → get_or ws k (pos 0) ≡ get_or xs (i + k) (pos 0))
      → ((k : ℕ) → k < n → FitsSigned w64 (get_or us k (pos 0))) → ((k : ℕ) → k < n → FitsSigned w64 (get_or xs (i + k) (pos 0)))
      → (k : ℕ) → k < n → FitsSigned w64 (get_or raised k (pos 0))
  greater_fits i xs same fu fx k l = fits_greater (get_or us k (pos 0)) (get_or xs (i + k) (pos 0)) (get_or raised k (pos 0)) (greater_lane i xs same fu fx k l) (fu k l) (fx k l)
