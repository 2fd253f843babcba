use Rattle.std.proofs.Common.{◌≡◌, ◌<◌, ◌≤◌, ◌^◌, ◌∙◌, ap, arith, pos, get_or, length, refl, sym, unsigned_abs, vec_len, SFits, w64}
use Rattle.std.proofs.lemmas.Int.{ints, to_z-of_z}
use Rattle.std.proofs.lemmas.Result.{err_from_is_err_and}
use Rattle.sm_frac.specs.Frac.{value_of}
use Rattle.sm_frac.specs.Rational.{ℚ, ◌+ℚ◌, ◌*ℚ◌, whole_ℚ}
use Rattle.sm_certificate.specs.Numbers.{number_at}
use Rattle.sm_certificate.proofs.NumberLemmas.{number_read}
use Rattle.sm_certificate.proofs.PointLemmas.{product_moved, products_moved}
use Rattle.sm_certificate.proofs.CombinationLemmas.{terms_start, terms_more, terms_end, terms_fine, row_terms_passed}
use Rattle.sm_certificate.proofs.combination.add_terms.Goals as goal

pub loop-i-init : goal.loop-i-init
loop-i-init c = terms_start c.args.sums.items (value_of c.args.multiplier) c.args.terms.now

pub returns-in_err-sums-clause-passed : goal.returns-in_err-sums-clause-passed
returns-in_err-sums-clause-passed c =
    let q = err_from_is_err_and c.from_residual.result c.from_residual.ensures.1 in
    let e = c.in_err-sums.field-0.0 in
    let terms = c.args.terms.now in
    let y = value_of c.args.multiplier in
    let before = c.loop-i.sums.items in
    let i = c.loop-i.i in
    let t = get_or terms i (0, pos 0) in
    let term = c.requires.terms i (0, pos 0) c.loop-i-test.true in
    let small : unsigned_abs t.1 ≤ 2 ^ 42 = term.small in
    let a : SFits w64 t.1 = omega (arith, ints) in
    let number : value_of c.fraction_of.result ≡ whole_ℚ t.1 = simp to_z-of_z at c.fraction_of.ensures in
    let long = c.loop-i.invariant.long in
    let column = term.column in
    let inside : t.0 < length before = omega (arith, c.args.sums.ok.0) in
    let here = number_read before t.0 c.index.result.now inside c.index.ensures in
    let moved = product_moved (value_of c.index.result.now) y (value_of c.fraction_of.result) (number_at before t.0) y (whole_ℚ t.1) e.op e.left e.right (sym here) refl number c.in_err-sums.ensures.passed in
    rw (q.1, q.2) (row_terms_passed (vec_len c.args.sums) c.args.sums.items before y terms i t e.op e.left e.right c.loop-i-test.true refl term.column c.requires.different c.loop-i.invariant moved)

pub loop-i-preserved : goal.loop-i-preserved
loop-i-preserved c =
    let terms = c.args.terms.now in
    let y = value_of c.args.multiplier in
    let before = c.loop-i.sums.items in
    let i = c.loop-i.i in
    let t = get_or terms i (0, pos 0) in
    let term = c.requires.terms i (0, pos 0) c.loop-i-test.true in
    let small : unsigned_abs t.1 ≤ 2 ^ 42 = term.small in
    let a : SFits w64 t.1 = omega (arith, ints) in
    let number : value_of c.fraction_of.result ≡ whole_ℚ t.1 = simp to_z-of_z at c.fraction_of.ensures in
    let long = c.loop-i.invariant.long in
    let column = term.column in
    let inside : t.0 < length before = omega (arith, c.args.sums.ok.0) in
    let here = number_read before t.0 c.index.result.now inside c.index.ensures in
    let first : t.0 < length c.args.sums.items = omega (arith, c.args.sums.ok.0) in
    let exact = c.in_ok-sums.ensures.exact ∙ ap (λ (z : ℚ). z +ℚ y *ℚ value_of c.fraction_of.result) (sym here) ∙ ap (λ (z : ℚ). number_at before t.0 +ℚ y *ℚ z) number in
    let fine = products_moved (value_of c.index.result.now) y (value_of c.fraction_of.result) (number_at before t.0) y (whole_ℚ t.1) (sym here) refl number c.in_ok-sums.ensures.fine in
    terms_more c.args.sums.items before y terms i t c.in_ok-sums.field-0 c.loop-i-test.true refl first c.requires.different exact fine c.loop-i.invariant

pub returns-clause-exact : goal.returns-clause-exact
returns-clause-exact c = terms_end c.args.sums.items c.loop-i.sums.items (value_of c.args.multiplier) c.args.terms.now c.loop-i.i c.loop-i-test.false c.loop-i.invariant

pub returns-clause-fine : goal.returns-clause-fine
returns-clause-fine c = terms_fine (vec_len c.args.sums) c.args.sums.items c.loop-i.sums.items (value_of c.args.multiplier) c.args.terms.now c.loop-i.i c.loop-i-test.false c.loop-i.invariant
