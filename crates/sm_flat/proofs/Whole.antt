-- A fraction is whole where the denominator divides the numerator.
use Rattle.std.proofs.Common.{◌≡◌, ℕ, ◌*◌, ◌/◌, ◌%◌, zero, suc, arith, sym, ap, ◌∙◌}
use Rattle.std.proofs.lemmas.Int.{ints, unsigned_abs-mul}
use Rattle.std.proofs.Math.IntN.{negsuc-*ℤ-pos}
use Rattle.std.proofs.Math.Nat.{mul-mod_left, mod-eq-sub-div-mul, div-mul-le_self}
use Rattle.std.specs.Prelude.{ℤ, pos, negsuc, neg_ℤ, ◌*ℤ◌, ◌≤ℤ◌, unsigned_abs}
use Rattle.sm_kinds.specs.Vars.{IsMultiple}

exact : (m e : ℕ) → m % e ≡ 0 → m ≡ m / e * e
exact m e h = let rest = mod-eq-sub-div-mul m e in let below = div-mul-le_self m e in omega (arith, h, rest, below)

negative : (m e q : ℕ) → suc m ≡ q * e → IsMultiple (negsuc m) (pos e)
negative m e zero h = absurd (omega (arith, h))
negative m e (suc q) h = (negsuc q, ap neg_ℤ (ap pos h) ∙ sym (negsuc-*ℤ-pos q e))

pub whole_from_rest : (n d : ℤ) → pos 1 ≤ℤ d → unsigned_abs n % unsigned_abs d ≡ 0 → IsMultiple n d
whole_from_rest (pos m) (pos e) h r = (pos (m / e), ap pos (exact m e r))
whole_from_rest (negsuc m) (pos e) h r = negative m e (suc m / e) (exact (suc m) e r)
whole_from_rest n (negsuc e) h r = absurd (omega (arith, ints))

pub rest_of_whole : (n d : ℤ) → IsMultiple n d → unsigned_abs n % unsigned_abs d ≡ 0
rest_of_whole n d w = ap (λ (x : ℕ). x % unsigned_abs d) (ap unsigned_abs w.1 ∙ unsigned_abs-mul w.0 d) ∙ mul-mod_left (unsigned_abs w.0) (unsigned_abs d)
