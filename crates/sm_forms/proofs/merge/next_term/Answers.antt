use Rattle.std.proofs.Common.{rules, ◌≡◌, ◌<◌, ◌∙◌, refl, FitsSigned, arith, slice_index_or, length, w64, inl, inr}
use Rattle.std.specs.Int.{w128}
use Rattle.std.specs.Prelude.{◌+ℤ◌, ◌*ℤ◌}
use Rattle.std.proofs.lemmas.Bool.{cases_lt}
use Rattle.std.proofs.lemmas.Int.{to_z-of_z}
use Rattle.sm_forms.proofs.Integers.{wide, product_fits, sum_fits}
use Rattle.sm_forms.proofs.Merges.{no_term, behind, take_left, take_right, take_both}
use Rattle.sm_forms.proofs.merge.next_term.Goals as goal

pub returns-then-left_var-right_var-clause-moves : goal.returns-then-left_var-right_var-clause-moves
returns-then-left_var-right_var-clause-moves c = λ n from a b.
    let t = slice_index_or c.args.left.now c.args.i no_term in
    let lt : c.args.i < length c.args.left.now = c.var_at-left_var.ensures.within.0 (omega (arith, c.if-left_var-right_var.true, c.var_at-right_var.ensures.most)) in
    let fits : FitsSigned w64 t.1 = search rules in
    let is = c.from.ensures ∙ to_z-of_z w64 t.1 fits in
    rw (is, to_z-of_z w128 t.1 (wide t.1 fits)) (take_left n from _ _ _ _ _ _ _ lt refl refl a
    (behind n from t.0 _ _ c.requires.j_in (λ h. omega (arith, c.if-left_var-right_var.true, c.var_at-left_var.ensures.var lt, c.var_at-right_var.ensures.var h)) b))

pub returns-then-right_var-left_var-clause-moves : goal.returns-then-right_var-left_var-clause-moves
returns-then-right_var-left_var-clause-moves c = λ n from a b.
    let t = slice_index_or c.args.right.now c.args.j no_term in
    let lt : c.args.j < length c.args.right.now = c.var_at-right_var.ensures.within.0 (omega (arith, c.if-right_var-left_var.true, c.var_at-left_var.ensures.most)) in
    let fits : FitsSigned w64 t.1 = search rules in
    let by_fits : FitsSigned w64 c.args.by = c.ranges.by in
    let is : c.product.result ≡ c.args.by *ℤ t.1 = rw (to_z-of_z w64 c.args.by by_fits, to_z-of_z w64 t.1 fits) at c.product.ensures in
    rw (is, to_z-of_z w128 (c.args.by *ℤ t.1) (product_fits c.args.by t.1 by_fits fits)) (take_right n from _ _ _ _ _ _ _ lt refl refl
    (behind n from t.0 _ _ c.requires.i_in (λ h. omega (arith, c.if-right_var-left_var.true, c.var_at-left_var.ensures.var h, c.var_at-right_var.ensures.var lt)) a) b)

pub returns-clause-moves : goal.returns-clause-moves
returns-clause-moves c = λ n from a b.
    let s = slice_index_or c.args.left.now c.args.i no_term in
    let t = slice_index_or c.args.right.now c.args.j no_term in
    let same : c.var_at-left_var.result ≡ c.var_at-right_var.result = omega (arith, c.if-left_var-right_var.false, c.if-right_var-left_var.false) in
    let li : c.args.i < length c.args.left.now = elim (cases_lt c.args.i (length c.args.left.now)) [
      | inl h ↦ h
      | inr h ↦ absurd (let lj : c.args.j < length c.args.right.now = omega (arith, c.requires.some) in omega (arith, same, h, c.var_at-left_var.ensures.within.0 (omega (arith, same, c.var_at-right_var.ensures.within.1 lj))))
    ] in
    let lj : c.args.j < length c.args.right.now = c.var_at-right_var.ensures.within.0 (omega (arith, same, c.var_at-left_var.ensures.within.1 li)) in
    let x : FitsSigned w64 s.1 = search rules in
    let z : FitsSigned w64 t.1 = search rules in
    let y : FitsSigned w64 c.args.by = c.ranges.by in
    let is : c.sum_of.result ≡ s.1 +ℤ (c.args.by *ℤ t.1) =
    rw (to_z-of_z w64 s.1 x, to_z-of_z w64 c.args.by y, to_z-of_z w64 t.1 z) at c.sum_of.ensures in
    let other : s.0 ≡ t.0 = omega (arith, same, c.var_at-left_var.ensures.var li, c.var_at-right_var.ensures.var lj) in
    rw (is, to_z-of_z w128 _ (sum_fits s.1 c.args.by t.1 x y z)) (take_both n from _ _ _ _ _ _ _ li lj refl other refl a b)
