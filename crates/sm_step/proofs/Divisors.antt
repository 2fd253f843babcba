-- Common divisors of several numbers.
use Rattle.std.proofs.Common.{◌≡◌, ℕ, ℤ, pos, ◌+◌, ◌<◌, ◌≤◌, List, ◌∷◌, length, drop, get_or, refl, sym, subst, arith, drop-cons, add-one, eqb-true}
use Rattle.std.specs.Prelude.{All, IsTrue, nat_eq, unsigned_abs}
use Rattle.std.proofs.lemmas.Nat.Gcd.{dvd_trans, dvd_refl}
use Rattle.std.proofs.lemmas.List.{drop_all}
use Rattle.std.proofs.lemmas.List.Elements.{All-cons, All-tail, All-nil}
use Rattle.std.proofs.Math.Nat.{eq-one_of_dvd-one}
use Rattle.std.specs.Int.{◌∣◌, IsGcd}
use Rattle.sm_step.specs.Grammar.{AreInLowestTerms}

-- the same numbers divide a and each of xs as b and each of ys
pub record SameDivisors (a : ℕ) (xs : List ℤ) (b : ℕ) (ys : List ℤ) : Type 0 where
  pub onward : (k : ℕ) → k ∣ a → All (λ x. k ∣ unsigned_abs x) xs → (k ∣ b) × All (λ y. k ∣ unsigned_abs y) ys
  pub back : (k : ℕ) → k ∣ b → All (λ y. k ∣ unsigned_abs y) ys → (k ∣ a) × All (λ x. k ∣ unsigned_abs x) xs

pub same_at_first : (a b : ℕ) (xs : List ℤ) → a ≡ b → SameDivisors a xs b xs
same_at_first a b xs e = record { onward = λ k h all. (subst (λ (n : ℕ). k ∣ n) e h, all); back = λ k h all. (subst (λ (n : ℕ). k ∣ n) (sym e) h, all) }

-- the greatest common divisor takes the place of a number
pub same_after : (a g b i : ℕ) (xs : List ℤ) → SameDivisors a (drop i xs) b xs → i < length xs → IsGcd a (unsigned_abs (get_or xs i (pos 0))) g → SameDivisors g (drop (i + 1) xs) b xs
same_after a g b i xs same within is =
    let next : drop i xs ≡ get_or xs i (pos 0) ∷ drop (i + 1) xs = rw add-one (drop-cons xs i (pos 0) within) in
    let so_far = subst (λ (ys : List ℤ). SameDivisors a ys b xs) next same in
    record {
      onward = λ k h all. so_far.onward k (dvd_trans k h is.0) (All-cons (λ x. k ∣ unsigned_abs x) (get_or xs i (pos 0)) (drop (i + 1) xs) (dvd_trans k h is.1) all);
      back = λ k h all. let parts = so_far.back k h all in (is.2 k parts.0 (parts.1 0 (pos 0) (omega arith)), All-tail (λ x. k ∣ unsigned_abs x) (get_or xs i (pos 0)) (drop (i + 1) xs) parts.1);
    }

pub same_at_last : (a b i : ℕ) (xs : List ℤ) (d : ℤ) → SameDivisors a (drop i xs) b xs → length xs ≤ i → b ≡ unsigned_abs d → (IsTrue (nat_eq a 1) → AreInLowestTerms d xs) × (AreInLowestTerms d xs → IsTrue (nat_eq a 1))
same_at_last a b i xs d same done e =
    let all = subst (λ (ys : List ℤ). SameDivisors a ys b xs) (drop_all i xs done) same in (
      (λ one. record { apart = λ k h divides. eq-one_of_dvd-one (subst (λ (n : ℕ). k ∣ n) (eqb-true a 1 one) (all.back k (subst (λ (n : ℕ). k ∣ n) (sym e) h) divides).0) }),
      (λ lowest. let parts = all.onward a (dvd_refl a) (All-nil (λ x. a ∣ unsigned_abs x)) in let one = lowest.apart a (subst (λ (n : ℕ). a ∣ n) e parts.0) parts.1 in rw one refl),
    )
