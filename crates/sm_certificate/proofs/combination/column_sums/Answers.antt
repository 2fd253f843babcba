use Rattle.std.proofs.Common.{◌<◌, ◌∙◌, ap, arith, length, map, refl, subst, sym, vec_len, ℕ}
use Rattle.std.proofs.lemmas.List.{length-map}
use Rattle.std.proofs.lemmas.Result.{err_from_is_err_and}
use Rattle.sm_frac.specs.Frac.{value_of}
use Rattle.sm_certificate.specs.declared.program.LpRow.{LpRow}
use Rattle.sm_certificate.specs.Numbers.{number_at}
use Rattle.sm_certificate.specs.Fine.{AreFine}
use Rattle.sm_certificate.specs.Checking.{PassesAt, IsRowTermsStep}
use Rattle.sm_certificate.proofs.NumberLemmas.{number_read}
use Rattle.sm_certificate.proofs.CombinationLemmas.{rows_start, rows_more, rows_end, rows_fine, columns_passed}
use Rattle.sm_certificate.proofs.combination.column_sums.Goals as goal

pub loop-i-init : goal.loop-i-init
loop-i-init c = record { long = refl; rows = rows_start (vec_len c.args.sums) c.args.sums.items c.args.rows.now (map value_of c.args.multipliers.now) c.requires.zero }

pub returns-in_err-sums-clause-passed : goal.returns-in_err-sums-clause-passed
returns-in_err-sums-clause-passed c =
    let q = err_from_is_err_and c.from_residual.result c.from_residual.ensures.1 in
    let e = c.in_err-sums.field-0.0 in
    let rows = c.args.rows.now in
    let ms = c.args.multipliers.now in
    let i = c.loop-i.i in
    let m = c.index-multipliers-i.result in
    let inside : i < length ms = (let l = c.loop-i-test.true in let n = c.requires.long in omega arith) in
    let terms = c.as_slice.ensures ∙ ap (λ (r : LpRow). r.terms) (sym c.index-rows-i.is) in
    let y = sym (number_read ms i m inside c.index-multipliers-i.is) in
    let so = c.loop-i.invariant in
    let passed = subst (λ (n : ℕ). PassesAt (IsRowTermsStep n (number_at c.loop-i.sums.items) (value_of m) c.as_slice.result.now) e.op e.left e.right) so.long c.in_err-sums.ensures.passed in
    rw (q.1, q.2) (columns_passed (vec_len c.args.sums) c.loop-i.sums.items rows (map value_of ms) i c.index-rows-i.result c.as_slice.result.now (value_of m) e.op e.left e.right c.loop-i-test.true c.index-rows-i.is terms y so.rows passed)

pub loop-i-preserved : goal.loop-i-preserved
loop-i-preserved c =
    let rows = c.args.rows.now in
    let ms = c.args.multipliers.now in
    let i = c.loop-i.i in
    let m = c.index-multipliers-i.result in
    let inside : i < length ms = (let l = c.loop-i-test.true in let n = c.requires.long in omega arith) in
    let terms = c.as_slice.ensures ∙ ap (λ (r : LpRow). r.terms) (sym c.index-rows-i.is) in
    let y = sym (number_read ms i m inside c.index-multipliers-i.is) in
    let so = c.loop-i.invariant in
    let fine = subst (λ (n : ℕ). AreFine (IsRowTermsStep n (number_at c.loop-i.sums.items) (value_of m) c.as_slice.result.now)) so.long c.in_ok-sums.ensures.fine in
    record {
      long = c.in_ok-sums.ensures.long ∙ so.long;
      rows = rows_more (vec_len c.args.sums) c.loop-i.sums.items c.in_ok-sums.sums.items rows (map value_of ms) i c.index-rows-i.result c.as_slice.result.now (value_of m) c.loop-i-test.true c.index-rows-i.is terms y c.in_ok-sums.ensures.exact fine so.rows;
    }

pub returns-clause-exact : goal.returns-clause-exact
returns-clause-exact c =
    let n = length-map c.args.multipliers.now value_of in
    let long = c.requires.long in
    let m = c.loop-i.auto.i-end in
    rows_end (vec_len c.args.sums) c.loop-i.sums.items c.args.rows.now (map value_of c.args.multipliers.now) c.loop-i.i (let l = c.loop-i-test.false in omega arith) (omega arith) c.loop-i.invariant.rows

pub returns-clause-fine : goal.returns-clause-fine
returns-clause-fine c =
    let m = c.loop-i.auto.i-end in
    rows_fine (vec_len c.args.sums) c.loop-i.sums.items c.args.rows.now (map value_of c.args.multipliers.now) c.loop-i.i (let l = c.loop-i-test.false in omega arith) c.loop-i.invariant.rows
