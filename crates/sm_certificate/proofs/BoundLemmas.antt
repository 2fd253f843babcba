-- The bound of a combination from its parts, and the steps that are fine.
use Rattle.std.proofs.Common.{◌≡◌, ℕ, ℤ, ◌<◌, ◌+◌, List, sym, ap, ◌∙◌, refl, arith, subst, inl, inr}
use Rattle.std.specs.Prelude.{Option, Result, Ok, Err, IfOk, IfErr}
use Rattle.std.proofs.Math.Logic.{⊎_elim}
use Rattle.sm_frac.specs.Rational.{ℚ, ◌+ℚ◌, ◌*ℚ◌, ◌-ℚ◌}
use Rattle.sm_frac.specs.Frac.{value_of}
use Rattle.sm_frac.specs.declared.fraction.Frac.{Frac}
use Rattle.sm_frac.specs.declared.operation.Op.{Op}
use Rattle.sm_frac.specs.declared.operation.RangePassed.{RangePassed}
use Rattle.sm_certificate.specs.declared.program.Program.{Program}
use Rattle.sm_certificate.specs.declared.program.LpRow.{LpRow}
use Rattle.sm_certificate.specs.Totals.{total}
use Rattle.sm_certificate.specs.Fine.{AreFine}
use Rattle.sm_certificate.specs.Program.{column_count, low, high, combined_coefficient, combined_bound, rest_coefficient, least_product, least_rest}
use Rattle.sm_certificate.specs.Checking.{PassesAt, NonePasses, IsColumnsStep, IsDifferencesStep, IsRowsBoundStep, IsConstantStep, with_constant, IsEndStep, IsEndsStep, IsRestStep, IsBoundStep, least_end}
use Rattle.sm_certificate.proofs.Totals.{total_same}
use Rattle.sm_certificate.proofs.CombinationLemmas.{end_product}

-- ---- the parts of a bound
-- what the code has of the parts: rows, sums and coefficients are those of the program
pub record HasRest (p : Program) (target : ℕ → ℚ) (ys : List ℚ) (rows : List LpRow) (sums rest : ℕ → ℚ) : Type 0 where
  pub rows_are : rows ≡ p.rows
  pub sums_are : (j : ℕ) → sums j ≡ combined_coefficient rows ys j
  pub rest_is : (j : ℕ) → j < column_count p → rest j ≡ target j -ℚ sums j

rest_here : (p : Program) (target : ℕ → ℚ) (ys : List ℚ) (rows : List LpRow) (sums rest : ℕ → ℚ) → HasRest p target ys rows sums rest → (j : ℕ) → j < column_count p → rest j ≡ rest_coefficient p target ys j
rest_here p target ys rows sums rest h j l = h.rest_is j l ∙ ap (λ (z : ℚ). target j -ℚ z) (h.sums_are j) ∙ ap (λ (rs : List LpRow). target j -ℚ combined_coefficient rs ys j) h.rows_are

-- the ends' steps look at the columns alone
end_moved : (p : Program) (b c : ℚ) (r s : ℕ → ℚ) → b ≡ c → ((j : ℕ) → j < column_count p → r j ≡ s j) → (op : Op) (x y : ℚ) → IsEndsStep p b r op x y → IsEndsStep p c s op x y
end_moved p b c r s e h op x y step =
    let j = step.0 in
    let l = step.1 in
    let sums = total_same j (end_product p r) (end_product p s) (λ k m. ap (λ (z : ℚ). z *ℚ least_end z (low p k) (high p k)) (h k (omega arith))) in
    let start : b +ℚ total j (end_product p r) ≡ c +ℚ total j (end_product p s) = ap (λ (z : ℚ). z +ℚ total j (end_product p r)) e ∙ ap (λ (z : ℚ). c +ℚ z) sums in
    (j, l, subst (λ (z : ℚ). IsEndStep z (s j) (low p j) (high p j) op x y) start (subst (λ (z : ℚ). IsEndStep (b +ℚ total j (end_product p r)) z (low p j) (high p j) op x y) (h j l) step.2))

differences_moved : (n : ℕ) (target s t : ℕ → ℚ) → ((j : ℕ) → s j ≡ t j) → (op : Op) (x y : ℚ) → IsDifferencesStep n target s op x y → IsDifferencesStep n target t op x y
differences_moved n target s t h op x y step = (step.0, step.1, record { operation = step.2.operation; left_is = step.2.left_is; right_is = step.2.right_is ∙ h step.0 })

module _ (p : Program) (target : ℕ → ℚ) (constant : Option ℤ) (ys : List ℚ) (rows : List LpRow) (e : rows ≡ p.rows) where
  pub columns_step : (n : ℕ) → n ≡ column_count p → (op : Op) (x y : ℚ) → IsColumnsStep n rows ys op x y → IsBoundStep p target constant ys op x y
  columns_step n en op x y s = inl (inl (subst (λ (m : ℕ). IsColumnsStep m p.rows ys op x y) en (subst (λ (rs : List LpRow). IsColumnsStep n rs ys op x y) e s)))

  sums_are : (sums : ℕ → ℚ) → ((j : ℕ) → sums j ≡ combined_coefficient rows ys j) → (j : ℕ) → sums j ≡ combined_coefficient p.rows ys j
  sums_are sums h j = h j ∙ ap (λ (rs : List LpRow). combined_coefficient rs ys j) e

  pub differences_step : (n : ℕ) (sums : ℕ → ℚ) → n ≡ column_count p → ((j : ℕ) → sums j ≡ combined_coefficient rows ys j) → (op : Op) (x y : ℚ) → IsDifferencesStep n target sums op x y → IsBoundStep p target constant ys op x y
  differences_step n sums en h op x y s = inl (inr (subst (λ (m : ℕ). IsDifferencesStep m target (combined_coefficient p.rows ys) op x y) en (differences_moved n target sums (combined_coefficient p.rows ys) (sums_are sums h) op x y s)))

  pub rows_step : (op : Op) (x y : ℚ) → IsRowsBoundStep rows ys op x y → IsBoundStep p target constant ys op x y
  rows_step op x y s = inr (inl (subst (λ (rs : List LpRow). IsRowsBoundStep rs ys op x y) e s))

  first_is : (a : ℚ) → a ≡ combined_bound rows ys → a ≡ combined_bound p.rows ys
  first_is a h = h ∙ ap (λ (rs : List LpRow). combined_bound rs ys) e

  pub constant_step : (a : ℚ) → a ≡ combined_bound rows ys → (op : Op) (x y : ℚ) → IsConstantStep a constant op x y → IsBoundStep p target constant ys op x y
  constant_step a h op x y s = inr (inr (inl (subst (λ (z : ℚ). IsConstantStep z constant op x y) (first_is a h) s)))

  second_is : (a b : ℚ) → a ≡ combined_bound rows ys → b ≡ with_constant a constant → b ≡ with_constant (combined_bound p.rows ys) constant
  second_is a b h k = k ∙ ap (λ (z : ℚ). with_constant z constant) (first_is a h)

  pub ends_step : (a b : ℚ) (sums rest : ℕ → ℚ) → a ≡ combined_bound rows ys → b ≡ with_constant a constant → HasRest p target ys rows sums rest → (op : Op) (x y : ℚ) → IsEndsStep p b rest op x y → IsBoundStep p target constant ys op x y
  ends_step a b sums rest h k r op x y s = inr (inr (inr (end_moved p b (with_constant (combined_bound p.rows ys) constant) rest (rest_coefficient p target ys) (second_is a b h k) (rest_here p target ys rows sums rest r) op x y s)))

  pub bound_value : (a b : ℚ) (sums rest : ℕ → ℚ) (res : Result Frac RangePassed) → a ≡ combined_bound rows ys → b ≡ with_constant a constant → HasRest p target ys rows sums rest → IfOk res (λ f. value_of f ≡ b +ℚ least_rest p rest) → IfOk res (λ f. value_of f ≡ with_constant (combined_bound p.rows ys) constant +ℚ least_rest p (rest_coefficient p target ys))
  bound_value a b sums rest (Ok f) h k r is = is ∙ ap (λ (z : ℚ). z +ℚ least_rest p rest) (second_is a b h k) ∙ ap (λ (z : ℚ). with_constant (combined_bound p.rows ys) constant +ℚ z) (total_same (column_count p) (λ j. least_product (rest j) (low p j) (high p j)) (λ j. least_product (rest_coefficient p target ys j) (low p j) (high p j)) (λ j l. ap (λ (z : ℚ). least_product z (low p j) (high p j)) (rest_here p target ys rows sums rest r j l)))
  bound_value a b sums rest (Err x) h k r is = tt

  -- the steps of the whole are those of the parts, so none passes where none of theirs does
  pub all_fine : (a b : ℚ) (n : ℕ) (sums rest : ℕ → ℚ) → n ≡ column_count p → a ≡ combined_bound rows ys → b ≡ with_constant a constant → HasRest p target ys rows sums rest → AreFine (IsColumnsStep n rows ys) → AreFine (IsDifferencesStep n target sums) → AreFine (IsRowsBoundStep rows ys) → AreFine (IsConstantStep a constant) → AreFine (IsEndsStep p b rest) → AreFine (IsBoundStep p target constant ys)
  all_fine a b n sums rest en h k r columns differences bounds with ends op x y s = ⊎_elim
      (λ (t : IsRestStep p target ys op x y). ⊎_elim
      (λ (u : IsColumnsStep (column_count p) p.rows ys op x y). columns op x y (subst (λ (m : ℕ). IsColumnsStep m rows ys op x y) (sym en) (subst (λ (rs : List LpRow). IsColumnsStep (column_count p) rs ys op x y) (sym e) u)))
      (λ (u : IsDifferencesStep (column_count p) target (combined_coefficient p.rows ys) op x y). differences op x y (subst (λ (m : ℕ). IsDifferencesStep m target sums op x y) (sym en) (differences_moved (column_count p) target (combined_coefficient p.rows ys) sums (λ j. sym (sums_are sums r.sums_are j)) op x y u)))
      t)
      (λ t. ⊎_elim
      (λ (u : IsRowsBoundStep p.rows ys op x y). bounds op x y (subst (λ (rs : List LpRow). IsRowsBoundStep rs ys op x y) (sym e) u))
      (λ u. ⊎_elim
      (λ (v : IsConstantStep (combined_bound p.rows ys) constant op x y). with op x y (subst (λ (z : ℚ). IsConstantStep z constant op x y) (sym (first_is a h)) v))
      (λ (v : IsEndsStep p (with_constant (combined_bound p.rows ys) constant) (rest_coefficient p target ys) op x y). ends op x y (end_moved p (with_constant (combined_bound p.rows ys) constant) b (rest_coefficient p target ys) rest (sym (second_is a b h k)) (λ j l. sym (rest_here p target ys rows sums rest r j l)) op x y v))
      u) t) s

pub also_passes : (S T : Op → ℚ → ℚ → Type 0) (op : Op) (f h : Frac) → ((o : Op) (x y : ℚ) → S o x y → T o x y) → PassesAt S op f h → PassesAt T op f h
also_passes S T op f h more p = record { step = more op (value_of f) (value_of h) p.step; passes = p.passes }

pub also_passed : (res : Result Frac RangePassed) (S T : Op → ℚ → ℚ → Type 0) → ((o : Op) (x y : ℚ) → S o x y → T o x y) → IfErr res (λ e. PassesAt S e.op e.left e.right) → IfErr res (λ e. PassesAt T e.op e.left e.right)
also_passed (Ok r) S T more p = tt
also_passed (Err e) S T more p = also_passes S T e.op e.left e.right more p

pub also_fine : (res : Result Frac RangePassed) (S T : Op → ℚ → ℚ → Type 0) → (AreFine S → AreFine T) → IfOk res (λ r. AreFine S) → IfOk res (λ r. AreFine T)
also_fine (Ok r) S T more h = more h
also_fine (Err e) S T more h = tt

pub none_passes : (S : Op → ℚ → ℚ → Type 0) → AreFine S → NonePasses S
none_passes S fine op f h p = (fine op (value_of f) (value_of h) p.step).fine f h refl refl p.passes
