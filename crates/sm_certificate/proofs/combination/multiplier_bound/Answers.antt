use Rattle.std.proofs.Common.{◌∙◌, ap, arith, map, refl, subst, vec_len, List, ℕ}
use Rattle.std.proofs.lemmas.Result.{err_from_is_err_and}
use Rattle.sm_frac.specs.Frac.{value_of}
use Rattle.sm_frac.specs.declared.fraction.Frac.{Frac}
use Rattle.sm_certificate.specs.Numbers.{number_at}
use Rattle.sm_certificate.specs.Fine.{AreFine}
use Rattle.sm_certificate.specs.Program.{column_count, target_at}
use Rattle.sm_certificate.specs.Checking.{IsColumnsStep, IsDifferencesStep, IsRowsBoundStep, IsConstantStep, IsEndsStep, IsBoundStep}
use Rattle.sm_certificate.proofs.BoundLemmas.{HasRest, columns_step, differences_step, rows_step, constant_step, ends_step, bound_value, all_fine, also_passes, also_passed, also_fine}
use Rattle.sm_certificate.proofs.combination.multiplier_bound.Goals as goal

pub returns-in_err-sums-clause-passed : goal.returns-in_err-sums-clause-passed
returns-in_err-sums-clause-passed c =
    let q = err_from_is_err_and c.from_residual.result c.from_residual.ensures.1 in
    let x = c.in_err-sums.field-0.0 in
    let p = c.args.program.now in
    let t = target_at c.args.target.now in
    let k = c.args.constant in
    let ys = map value_of c.args.multipliers.now in
    let rows = c.as_slice-rows.result.now in
    let e = c.as_slice-rows.ensures in
    rw (q.1, q.2) (also_passes (IsColumnsStep (vec_len c.args.blank) rows ys) (IsBoundStep p t k ys) x.op x.left x.right (columns_step p t k ys rows e (vec_len c.args.blank) c.requires.blank) c.in_err-sums.ensures.passed)

pub returns-in_err-rest-clause-passed : goal.returns-in_err-rest-clause-passed
returns-in_err-rest-clause-passed c =
    let q = err_from_is_err_and c.from_residual-in_err-rest.result c.from_residual-in_err-rest.ensures.1 in
    let x = c.in_err-rest.field-0.0 in
    let p = c.args.program.now in
    let t = target_at c.args.target.now in
    let k = c.args.constant in
    let ys = map value_of c.args.multipliers.now in
    let rows = c.as_slice-rows.result.now in
    let e = c.as_slice-rows.ensures in
    let n = c.in_ok-sums.ensures.long ∙ c.requires.blank in
    let sums = number_at c.in_ok-sums.sums.items in
    rw (q.1, q.2) (also_passes (IsDifferencesStep (vec_len c.in_ok-sums.sums) t sums) (IsBoundStep p t k ys) x.op x.left x.right (differences_step p t k ys rows e (vec_len c.in_ok-sums.sums) sums n c.in_ok-sums.ensures.exact) c.in_err-rest.ensures.passed)

pub returns-in_err-of_rows-clause-passed : goal.returns-in_err-of_rows-clause-passed
returns-in_err-of_rows-clause-passed c =
    let q = err_from_is_err_and c.from_residual-in_err-of_rows.result c.from_residual-in_err-of_rows.ensures.1 in
    let x = c.in_err-of_rows.field-0.0 in
    let p = c.args.program.now in
    let t = target_at c.args.target.now in
    let k = c.args.constant in
    let ys = map value_of c.args.multipliers.now in
    let rows = c.as_slice-rows.result.now in
    let e = c.as_slice-rows.ensures in
    rw (q.1, q.2) (also_passes (IsRowsBoundStep rows ys) (IsBoundStep p t k ys) x.op x.left x.right (rows_step p t k ys rows e) c.in_err-of_rows.ensures.passed)

pub returns-in_err-bound-clause-passed : goal.returns-in_err-bound-clause-passed
returns-in_err-bound-clause-passed c =
    let q = err_from_is_err_and c.from_residual-in_err-bound.result c.from_residual-in_err-bound.ensures.1 in
    let x = c.in_err-bound.field-0.0 in
    let p = c.args.program.now in
    let t = target_at c.args.target.now in
    let k = c.args.constant in
    let ys = map value_of c.args.multipliers.now in
    let rows = c.as_slice-rows.result.now in
    let e = c.as_slice-rows.ensures in
    let a = value_of c.in_ok-of_rows.of_rows in
    rw (q.1, q.2) (also_passes (IsConstantStep a k) (IsBoundStep p t k ys) x.op x.left x.right (constant_step p t k ys rows e a c.in_ok-of_rows.ensures.exact) c.in_err-bound.ensures.passed)

pub returns-clause-exact : goal.returns-clause-exact
returns-clause-exact c =
    let p = c.args.program.now in
    let t = target_at c.args.target.now in
    let k = c.args.constant in
    let ys = map value_of c.args.multipliers.now in
    let rows = c.as_slice-rows.result.now in
    let e = c.as_slice-rows.ensures in
    let n = c.in_ok-sums.ensures.long ∙ c.requires.blank in
    let sums = number_at c.in_ok-sums.sums.items in
    let rest = number_at c.deref.result.now in
    let left : HasRest p t ys rows sums rest = record {
      rows_are = e;
      sums_are = c.in_ok-sums.ensures.exact;
      rest_is = λ j l. ap (λ (xs : List Frac). number_at xs j) c.deref.ensures.value ∙ c.in_ok-rest.ensures.exact j (let same = n in omega arith);
    } in
    let a = value_of c.in_ok-of_rows.of_rows in
    let b = value_of c.in_ok-bound.bound in
    bound_value p t k ys rows e a b sums rest c.with_ends.result c.in_ok-of_rows.ensures.exact c.in_ok-bound.ensures.exact left c.with_ends.ensures.exact

pub returns-clause-fine : goal.returns-clause-fine
returns-clause-fine c =
    let p = c.args.program.now in
    let t = target_at c.args.target.now in
    let k = c.args.constant in
    let ys = map value_of c.args.multipliers.now in
    let rows = c.as_slice-rows.result.now in
    let e = c.as_slice-rows.ensures in
    let n = c.in_ok-sums.ensures.long ∙ c.requires.blank in
    let sums = number_at c.in_ok-sums.sums.items in
    let rest = number_at c.deref.result.now in
    let left : HasRest p t ys rows sums rest = record {
      rows_are = e;
      sums_are = c.in_ok-sums.ensures.exact;
      rest_is = λ j l. ap (λ (xs : List Frac). number_at xs j) c.deref.ensures.value ∙ c.in_ok-rest.ensures.exact j (let same = n in omega arith);
    } in
    let a = value_of c.in_ok-of_rows.of_rows in
    let b = value_of c.in_ok-bound.bound in
    also_fine c.with_ends.result (IsEndsStep p b rest) (IsBoundStep p t k ys) (all_fine p t k ys rows e a b (column_count p) sums rest refl c.in_ok-of_rows.ensures.exact c.in_ok-bound.ensures.exact left (subst (λ (m : ℕ). AreFine (IsColumnsStep m rows ys)) c.requires.blank c.in_ok-sums.ensures.fine) (subst (λ (m : ℕ). AreFine (IsDifferencesStep m t sums)) n c.in_ok-rest.ensures.fine) c.in_ok-of_rows.ensures.fine c.in_ok-bound.ensures.fine) c.with_ends.ensures.fine

pub returns-clause-passed : goal.returns-clause-passed
returns-clause-passed c =
    let p = c.args.program.now in
    let t = target_at c.args.target.now in
    let k = c.args.constant in
    let ys = map value_of c.args.multipliers.now in
    let rows = c.as_slice-rows.result.now in
    let e = c.as_slice-rows.ensures in
    let n = c.in_ok-sums.ensures.long ∙ c.requires.blank in
    let sums = number_at c.in_ok-sums.sums.items in
    let rest = number_at c.deref.result.now in
    let left : HasRest p t ys rows sums rest = record {
      rows_are = e;
      sums_are = c.in_ok-sums.ensures.exact;
      rest_is = λ j l. ap (λ (xs : List Frac). number_at xs j) c.deref.ensures.value ∙ c.in_ok-rest.ensures.exact j (let same = n in omega arith);
    } in
    let a = value_of c.in_ok-of_rows.of_rows in
    let b = value_of c.in_ok-bound.bound in
    also_passed c.with_ends.result (IsEndsStep p b rest) (IsBoundStep p t k ys) (ends_step p t k ys rows e a b sums rest c.in_ok-of_rows.ensures.exact c.in_ok-bound.ensures.exact left) c.with_ends.ensures.passed
