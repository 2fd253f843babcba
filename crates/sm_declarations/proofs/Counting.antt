-- Counts that aren't followed beyond a limit.
use Rattle.std.proofs.Common.{◌≡◌, ◌∙◌, ap, ℕ, zero, suc, ◌*◌, ◌≤◌, arith, inl, inr}
use Rattle.std.specs.Prelude.{min}
use Rattle.std.proofs.Math.Nat.{min-eq_left}
use Rattle.std.proofs.lemmas.Bool.Decides.{leb_tells}

at_least : (k x : ℕ) → x ≤ suc k * x
at_least k x = omega arith

-- a product of which one factor was cut, cut again
pub capped_product : (size n c : ℕ) → min (size * min n c) c ≡ min (size * n) c
capped_product zero n c = omega arith
capped_product (suc k) n c = elim (leb_tells n c) [
  | inl h ↦ ap (λ m. min (suc k * m) c) (min-eq_left h.1)
  | inr h ↦
      let cut : min n c ≡ c = omega (arith, h.1) in
      ap (λ m. min (suc k * m) c) cut ∙ omega (arith, at_least k n, at_least k c, h.1)
]
