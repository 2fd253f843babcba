-- Laws of the field of rationals that follow from those in `specs/Rational.antt`, and sets of them for `simp`.
use Rattle.std.proofs.Common.{◌≡◌, sym, ap, ◌∙◌}
use Rattle.sm_frac.specs.Rational.{ℚ, ◌+ℚ◌, ◌*ℚ◌, ◌-ℚ◌, neg_ℚ, zero_ℚ, one_ℚ, inverse, +ℚ_comm, +ℚ_assoc, *ℚ_comm, *ℚ_assoc, *ℚ-+ℚ, *ℚ-neg_ℚ, +ℚ-zero, +ℚ-neg_ℚ, *ℚ-one, *ℚ-zero, *ℚ-inverse, is_nonnegative, nonnegative-sum, nonnegative-product, nonnegative-turned, zero_from_both, nonnegative-zero}

pub +ℚ_left_comm : (x y z : ℚ) → x +ℚ (y +ℚ z) ≡ y +ℚ (x +ℚ z)
+ℚ_left_comm x y z = sym (+ℚ_assoc x y z) ∙ ap (λ (w : ℚ). w +ℚ z) (+ℚ_comm x y) ∙ +ℚ_assoc y x z

pub *ℚ_left_comm : (x y z : ℚ) → x *ℚ (y *ℚ z) ≡ y *ℚ (x *ℚ z)
*ℚ_left_comm x y z = sym (*ℚ_assoc x y z) ∙ ap (λ (w : ℚ). w *ℚ z) (*ℚ_comm x y) ∙ *ℚ_assoc y x z

pub +ℚ-*ℚ : (x y z : ℚ) → (x +ℚ y) *ℚ z ≡ x *ℚ z +ℚ y *ℚ z
+ℚ-*ℚ x y z = *ℚ_comm (x +ℚ y) z ∙ *ℚ-+ℚ z x y ∙ ap (λ (w : ℚ). w +ℚ z *ℚ y) (*ℚ_comm z x) ∙ ap (λ (w : ℚ). x *ℚ z +ℚ w) (*ℚ_comm z y)

pub neg_ℚ-*ℚ : (x y : ℚ) → neg_ℚ x *ℚ y ≡ neg_ℚ (x *ℚ y)
neg_ℚ-*ℚ x y = *ℚ_comm (neg_ℚ x) y ∙ *ℚ-neg_ℚ y x ∙ ap neg_ℚ (*ℚ_comm y x)

pub zero-+ℚ : (x : ℚ) → zero_ℚ +ℚ x ≡ x
zero-+ℚ x = +ℚ_comm zero_ℚ x ∙ +ℚ-zero x

pub zero-*ℚ : (x : ℚ) → zero_ℚ *ℚ x ≡ zero_ℚ
zero-*ℚ x = *ℚ_comm zero_ℚ x ∙ *ℚ-zero x

pub one-*ℚ : (x : ℚ) → one_ℚ *ℚ x ≡ x
one-*ℚ x = *ℚ_comm one_ℚ x ∙ *ℚ-one x

pub cancel_neg : (x y : ℚ) → x +ℚ (neg_ℚ x +ℚ y) ≡ y
cancel_neg x y = sym (+ℚ_assoc x (neg_ℚ x) y) ∙ ap (λ (w : ℚ). w +ℚ y) (+ℚ-neg_ℚ x) ∙ zero-+ℚ y

pub neg_cancel : (x y : ℚ) → neg_ℚ x +ℚ (x +ℚ y) ≡ y
neg_cancel x y = +ℚ_left_comm (neg_ℚ x) x y ∙ cancel_neg x y

pub neg_ℚ-+ℚ_self : (x : ℚ) → neg_ℚ x +ℚ x ≡ zero_ℚ
neg_ℚ-+ℚ_self x = +ℚ_comm (neg_ℚ x) x ∙ +ℚ-neg_ℚ x

pub add_right_cancel : (x y z : ℚ) → x +ℚ z ≡ y +ℚ z → x ≡ y
add_right_cancel x y z h =
    sym (+ℚ-zero x) ∙ ap (λ (w : ℚ). x +ℚ w) (sym (+ℚ-neg_ℚ z)) ∙ sym (+ℚ_assoc x z (neg_ℚ z)) ∙ ap (λ (w : ℚ). w +ℚ neg_ℚ z) h ∙ +ℚ_assoc y z (neg_ℚ z) ∙ ap (λ (w : ℚ). y +ℚ w) (+ℚ-neg_ℚ z) ∙ +ℚ-zero y

pub neg_ℚ-zero : neg_ℚ zero_ℚ ≡ zero_ℚ
neg_ℚ-zero = sym (+ℚ-zero (neg_ℚ zero_ℚ)) ∙ neg_ℚ-+ℚ_self zero_ℚ

pub neg_ℚ-neg_ℚ : (x : ℚ) → neg_ℚ (neg_ℚ x) ≡ x
neg_ℚ-neg_ℚ x = add_right_cancel (neg_ℚ (neg_ℚ x)) x (neg_ℚ x) (neg_ℚ-+ℚ_self (neg_ℚ x) ∙ sym (+ℚ-neg_ℚ x))

pub neg_ℚ-+ℚ : (x y : ℚ) → neg_ℚ (x +ℚ y) ≡ neg_ℚ x +ℚ neg_ℚ y
neg_ℚ-+ℚ x y = add_right_cancel (neg_ℚ (x +ℚ y)) (neg_ℚ x +ℚ neg_ℚ y) (x +ℚ y) (neg_ℚ-+ℚ_self (x +ℚ y) ∙ sym (simp (+ℚ_assoc, +ℚ_comm, +ℚ_left_comm, +ℚ-neg_ℚ, zero-+ℚ)))

-- a number and its negative one and two terms apart: `simp` sorts a sum, and other terms may come to stand between the two
pub far_cancel : (x y : ℚ) → x +ℚ (y +ℚ neg_ℚ x) ≡ y
far_cancel x y = +ℚ_left_comm x y (neg_ℚ x) ∙ ap (λ (w : ℚ). y +ℚ w) (+ℚ-neg_ℚ x) ∙ +ℚ-zero y

pub far_cancel_more : (x y z : ℚ) → x +ℚ (y +ℚ (neg_ℚ x +ℚ z)) ≡ y +ℚ z
far_cancel_more x y z = +ℚ_left_comm x y (neg_ℚ x +ℚ z) ∙ ap (λ (w : ℚ). y +ℚ w) (cancel_neg x z)

pub further_cancel : (x y z : ℚ) → x +ℚ (y +ℚ (z +ℚ neg_ℚ x)) ≡ y +ℚ z
further_cancel x y z = +ℚ_left_comm x y (z +ℚ neg_ℚ x) ∙ ap (λ (w : ℚ). y +ℚ w) (far_cancel x z)

pub further_cancel_more : (x y z w : ℚ) → x +ℚ (y +ℚ (z +ℚ (neg_ℚ x +ℚ w))) ≡ y +ℚ (z +ℚ w)
further_cancel_more x y z w = +ℚ_left_comm x y (z +ℚ (neg_ℚ x +ℚ w)) ∙ ap (λ (v : ℚ). y +ℚ v) (far_cancel_more x z w)

-- for `simp`: both sides of an equation of a ring to one form
pub ruleset ring = (*ℚ-+ℚ, +ℚ-*ℚ, *ℚ-neg_ℚ, neg_ℚ-*ℚ, neg_ℚ-+ℚ, neg_ℚ-neg_ℚ, *ℚ-one, one-*ℚ, *ℚ-zero, zero-*ℚ, +ℚ-zero, zero-+ℚ, neg_ℚ-zero, *ℚ_assoc, *ℚ_comm, *ℚ_left_comm, +ℚ_assoc, +ℚ_comm, +ℚ_left_comm, cancel_neg, neg_cancel, +ℚ-neg_ℚ, neg_ℚ-+ℚ_self, far_cancel, far_cancel_more, further_cancel, further_cancel_more)
