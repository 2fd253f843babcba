-- A loop's step from one block to the next, and what its last lanes say.
use Rattle.std.proofs.Common.{◌≡◌, ℕ, zero, suc, ◌+◌, ◌-◌, ◌<◌, ◌≤◌, List, refl, sym, subst, ⊎_elim, arith}
use Rattle.std.specs.Prelude.{ℤ, ◌≤ℤ◌, ◌⊎◌}
use Rattle.std.proofs.lemmas.Bool.{cases_lt}
use Rattle.std.proofs.lemmas.Int.{ints}
use Rattle.sm_lanes.specs.Numbers.{number_at, IsAmong, IsAtMost, IsGreater}

-- a fact of each place of a block
pub in_block : (P : ℕ → Type 0) (at n : ℕ) → ((j : ℕ) → j < n → P (at + j)) → (k : ℕ) → at ≤ k → k < at + n
    → P k
in_block P at n here k low high =
    let same : at + (k - at) ≡ k = omega arith in
    subst P same (here (k - at) (omega arith))

-- the greater lanes are among the numbers too
pub among_more : (numbers tops new : List ℤ) (from to at n : ℕ) → from ≤ at → at + n ≤ to
    → ((j : ℕ) → j < n → IsAmong numbers from to (number_at tops j))
    → ((j : ℕ) → j < n → IsGreater (number_at tops j) (number_at numbers (at + j)) (number_at new j))
    → (j : ℕ) → j < n → IsAmong numbers from to (number_at new j)
among_more numbers tops new from to at n low high among greater j l =
    let P : ℤ → Type 0 = λ x. IsAmong numbers from to x in
    let here : IsAmong numbers from to (number_at numbers (at + j)) =
    record { place = at + j; low = omega arith; high = omega arith; same = refl } in
    ⊎_elim
    (λ (e : number_at new j ≡ number_at tops j). subst P (sym e) (among j l))
    (λ (e : number_at new j ≡ number_at numbers (at + j)). subst P (sym e) here)
    (greater j l).reached

-- what is above each lane is above each number so far
pub covers_more : (numbers tops new : List ℤ) (from at n : ℕ)
    → ((m : ℤ) → IsAtMost tops 0 n m → IsAtMost numbers from at m)
    → ((j : ℕ) → j < n → IsGreater (number_at tops j) (number_at numbers (at + j)) (number_at new j))
    → (m : ℤ) → IsAtMost new 0 n m → IsAtMost numbers from (at + n) m
covers_more numbers tops new from at n covers greater m most k low high =
    let old : IsAtMost tops 0 n m = λ j z l.
    let up = (greater j l).first in
    let top = most j z l in
    omega (arith, ints) in
    let block : (j : ℕ) → j < n → number_at numbers (at + j) ≤ℤ m = λ j l.
    let up = (greater j l).second in
    let top = most j (omega arith) l in
    omega (arith, ints) in
    ⊎_elim
    (λ (before : k < at). covers m old k low before)
    (λ (after : at ≤ k). in_block (λ k. number_at numbers k ≤ℤ m) at n block k after high)
    (cases_lt k at)

-- the greatest of the lanes and of the numbers after the last block
pub among_last : (numbers tops : List ℤ) (from to at n : ℕ) (most last : ℤ) → 0 < n → from ≤ at
    → ((j : ℕ) → j < n → IsAmong numbers from to (number_at tops j)) → ((most ≡ number_at tops 0) ⊎ IsAmong tops 1 n most) → ((last ≡ most) ⊎ IsAmong numbers at to last)
    → IsAmong numbers from to last
among_last numbers tops from to at n most last some low among lane end =
    let P : ℤ → Type 0 = λ x. IsAmong numbers from to x in
    ⊎_elim
    (λ (e : last ≡ most). subst P (sym e)
    (⊎_elim (λ (e : most ≡ number_at tops 0). subst P (sym e) (among 0 some)) (λ (a : IsAmong tops 1 n most). subst P a.same (among a.place a.high)) lane))
    (λ (a : IsAmong numbers at to last). record { place = a.place; low = omega arith; high = a.high; same = a.same })
    end

pub most_last : (numbers tops : List ℤ) (from to at n : ℕ) (most last : ℤ)
    → ((m : ℤ) → IsAtMost tops 0 n m → IsAtMost numbers from at m)
    → number_at tops 0 ≤ℤ most → IsAtMost tops 1 n most → most ≤ℤ last → IsAtMost numbers at to last → IsAtMost numbers from to last
most_last numbers tops from to at n most last covers first lanes up end k low high =
    ⊎_elim
    (λ (before : k < at). let here = covers most (all_lanes first lanes) k low before in omega (arith, ints))
    (λ (after : at ≤ k). end k after high)
    (cases_lt k at)
  where
    all_lanes : number_at tops 0 ≤ℤ most → IsAtMost tops 1 n most → IsAtMost tops 0 n most
    all_lanes first lanes zero z l = first
    all_lanes first lanes (suc j) z l = lanes (suc j) (omega arith) l
