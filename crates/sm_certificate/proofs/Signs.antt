-- Signs of products and sums of rationals.
use Rattle.std.proofs.Common.{◌≡◌, ℕ, sym, ap, ◌∙◌, refl, subst, ◌<◌, ◌≢◌}
use Rattle.std.specs.Prelude.{IsTrue, true, false, Bool}
use Rattle.std.proofs.lemmas.Bool.{cases_eq}
use Rattle.std.proofs.Math.Logic.{⊎_elim}
use Rattle.sm_frac.specs.Rational.{ℚ, ◌+ℚ◌, ◌*ℚ◌, neg_ℚ, zero_ℚ, one_ℚ, inverse, *ℚ-inverse, is_nonnegative, nonnegative-sum, nonnegative-product, nonnegative-turned, zero_from_both, nonnegative-zero}
use Rattle.sm_frac.proofs.RationalRing.{ring}
use Rattle.sm_certificate.specs.Totals.{total}
pub use Rattle.sm_certificate.specs.Signs.{AtLeast, Below, AtMost, Above}
use Rattle.sm_certificate.proofs.Totals.{total_split, total_nonnegative, total_same, total-scaled, without, without_at, without_off}

pub by_test : (b : Bool) → (IsTrue b → ⊥) → b ≡ false
by_test true h = absurd (h refl)
by_test false h = refl

pub at_most : (x : ℚ) → Below x → AtMost x
at_most x h = record { is = nonnegative-turned x (by_test (is_nonnegative x) (λ t. h.is (record { is = t }))) }

pub sum_at_least : (x y : ℚ) → AtLeast x → AtLeast y → AtLeast (x +ℚ y)
sum_at_least x y h k = record { is = nonnegative-sum x y h.is k.is }

pub product_at_least : (x y : ℚ) → AtLeast x → AtLeast y → AtLeast (x *ℚ y)
product_at_least x y h k = record { is = nonnegative-product x y h.is k.is }

pub zero_at_least : AtLeast zero_ℚ
zero_at_least = record { is = nonnegative-zero }

pub moved : (x y : ℚ) → x ≡ y → AtLeast x → AtLeast y
moved x y e h = subst AtLeast e h

turned_back : (x : ℚ) → neg_ℚ (neg_ℚ x) ≡ x
turned_back x = simp ring

pub product_at_most : (x y : ℚ) → AtMost x → AtLeast y → AtMost (x *ℚ y)
product_at_most x y h k = moved (neg_ℚ x *ℚ y) (neg_ℚ (x *ℚ y)) (simp ring) (product_at_least (neg_ℚ x) y h k)

pub products_turned : (x y : ℚ) → AtMost x → AtMost y → AtLeast (x *ℚ y)
products_turned x y h k = moved (neg_ℚ x *ℚ neg_ℚ y) (x *ℚ y) (simp ring) (product_at_least (neg_ℚ x) (neg_ℚ y) h k)

pub both_zero : (x : ℚ) → AtLeast x → AtMost x → x ≡ zero_ℚ
both_zero x h k = zero_from_both x h.is k.is

pub not_zero : (x : ℚ) → Below x → x ≡ zero_ℚ → ⊥
not_zero x h e = h.is (moved zero_ℚ x (sym e) zero_at_least)

pub zero_factor : (x y : ℚ) → (x ≡ zero_ℚ → ⊥) → x *ℚ y ≡ zero_ℚ → y ≡ zero_ℚ
zero_factor x y ne e = first ∙ ap (λ (z : ℚ). z *ℚ y) (sym (*ℚ-inverse x ne)) ∙ second ∙ ap (λ (z : ℚ). z *ℚ inverse x) e ∙ third
  where
    first : y ≡ one_ℚ *ℚ y
    first = simp ring

    second : x *ℚ inverse x *ℚ y ≡ x *ℚ y *ℚ inverse x
    second = simp ring

    third : zero_ℚ *ℚ inverse x ≡ zero_ℚ
    third = simp ring

pub product_below : (x y : ℚ) → Below x → Below y → Above (x *ℚ y)
product_below x y h k = record {
  is = λ (t : AtMost (x *ℚ y)).
      let zero_product = both_zero (x *ℚ y) (products_turned x y (at_most x h) (at_most y k)) t in
      not_zero y k (zero_factor x y (not_zero x h) zero_product);
}

pub above_below : (x y : ℚ) → Above x → Below y → Below (x *ℚ y)
above_below x y h k =
    let e : neg_ℚ (neg_ℚ x *ℚ y) ≡ x *ℚ y = simp ring in
    let p : Above (neg_ℚ x *ℚ y) = product_below (neg_ℚ x) y h k in
    subst Below e p

-- a sum of terms that are at most 0, one of which is below
pub sum_below : (x y : ℚ) → AtMost x → Below y → Below (x +ℚ y)
sum_below x y h k = record { is = λ (t : AtLeast (x +ℚ y)). k.is (moved (x +ℚ y +ℚ neg_ℚ x) y (simp ring) (sum_at_least (x +ℚ y) (neg_ℚ x) t h)) }

pub total_at_least : (n : ℕ) (f : ℕ → ℚ) → ((j : ℕ) → j < n → AtLeast (f j)) → AtLeast (total n f)
total_at_least n f h = record { is = total_nonnegative n f (λ j l. (h j l).is) }

pub total_turned : (n : ℕ) (f : ℕ → ℚ) → total n (λ j. neg_ℚ (f j)) ≡ neg_ℚ (total n f)
total_turned n f = total_same n (λ j. neg_ℚ (f j)) (λ j. neg_ℚ one_ℚ *ℚ f j) (λ j l. one (f j)) ∙ total-scaled n (neg_ℚ one_ℚ) f ∙ sym (one (total n f))
  where
    one : (x : ℚ) → neg_ℚ x ≡ neg_ℚ one_ℚ *ℚ x
    one x = simp ring

pub total_at_most : (n : ℕ) (f : ℕ → ℚ) → ((j : ℕ) → j < n → AtMost (f j)) → AtMost (total n f)
total_at_most n f h = moved (total n (λ j. neg_ℚ (f j))) (neg_ℚ (total n f)) (total_turned n f) (total_at_least n (λ j. neg_ℚ (f j)) h)

pub total_below : (n c : ℕ) (f : ℕ → ℚ) → c < n → ((j : ℕ) → j < n → j ≢ c → AtMost (f j)) → Below (f c) → Below (total n f)
total_below n c f h low strict =
    subst Below (sym (total_split n c f h))
    (sum_below (total n (without c f)) (f c)
    (total_at_most n (without c f) (λ j l. ⊎_elim
    (λ (e : j ≡ c). moved (neg_ℚ zero_ℚ) (neg_ℚ (without c f j)) (ap neg_ℚ (sym (without_at c f j e))) (moved zero_ℚ (neg_ℚ zero_ℚ) (simp ring) zero_at_least))
    (λ (ne : j ≢ c). moved (neg_ℚ (f j)) (neg_ℚ (without c f j)) (ap neg_ℚ (sym (without_off c f j ne))) (low j l ne)) (cases_eq j c)))
    strict)
