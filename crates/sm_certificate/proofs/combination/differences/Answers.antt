use Rattle.std.proofs.Common.{◌<◌, ◌∙◌, ap, arith, length, refl, sym, vec_len}
use Rattle.std.proofs.lemmas.Result.{err_from_is_err_and}
use Rattle.sm_frac.specs.Frac.{value_of}
use Rattle.sm_frac.specs.Rational.{ℚ, ◌-ℚ◌}
use Rattle.sm_frac.specs.declared.operation.Op.TheVariants.{Minus}
use Rattle.sm_certificate.specs.Numbers.{number_at}
use Rattle.sm_certificate.specs.Program.{target_at}
use Rattle.sm_certificate.proofs.NumberLemmas.{number_read}
use Rattle.sm_certificate.proofs.FineLemmas.{fine_of, fine_moved}
use Rattle.sm_certificate.proofs.CombinationLemmas.{differences_start, differences_more, differences_fine, difference_passed}
use Rattle.sm_certificate.proofs.combination.differences.Goals as goal

pub loop-j-init : goal.loop-j-init
loop-j-init c = differences_start c.args.sums.items (target_at c.args.target.now)

pub returns-in_err-sums-clause-passed : goal.returns-in_err-sums-clause-passed
returns-in_err-sums-clause-passed c =
    let q = err_from_is_err_and c.from_residual.result c.from_residual.ensures.1 in
    let e = c.in_err-sums.field-0.0 in
    let before = c.loop-j.sums.items in
    let j = c.loop-j.j in
    let long = c.loop-j.invariant.long in
    let n = c.len-j-end.ensures in
    let inside : j < vec_len c.args.sums = (let l = c.loop-j-test.true in omega arith) in
    let within : j < length before = omega (arith, c.args.sums.ok.0) in
    let here = number_read before j c.index.result.now within c.index.ensures in
    rw (q.1, q.2) (difference_passed (vec_len c.args.sums) c.args.sums.items before (target_at c.args.target.now) j c.coefficient_of.result c.index.result.now e inside c.coefficient_of.ensures (sym here) c.in_err-sums.ensures.carried (c.in_err-sums.ensures.passed.0 refl) c.loop-j.invariant)

pub loop-j-preserved : goal.loop-j-preserved
loop-j-preserved c =
    let before = c.loop-j.sums.items in
    let j = c.loop-j.j in
    let long = c.loop-j.invariant.long in
    let n = c.len-j-end.ensures in
    let inside : j < length c.args.sums.items = (let l = c.loop-j-test.true in omega (arith, c.args.sums.ok.0)) in
    let within : j < length before = omega arith in
    let here = number_read before j c.index.result.now within c.index.ensures in
    let t = target_at c.args.target.now j in
    let exact = c.in_ok-sums.ensures.exact ∙ ap (λ (z : ℚ). z -ℚ value_of c.index.result.now) c.coefficient_of.ensures ∙ ap (λ (z : ℚ). t -ℚ z) (sym here) in
    let fine = fine_moved Minus (value_of c.coefficient_of.result) (value_of c.index.result.now) t (number_at before j) (fine_of Minus c.coefficient_of.result c.index.result.now (λ p. absurd (let no = c.in_ok-sums.ensures.passed.1 p in cc))) c.coefficient_of.ensures (sym here) in
    differences_more c.args.sums.items before (target_at c.args.target.now) j c.in_ok-sums.field-0 inside exact fine c.loop-j.invariant

pub returns-clause-long : goal.returns-clause-long
returns-clause-long c = let long = c.loop-j.invariant.long in omega (arith, c.args.sums.ok.0, c.loop-j.sums.ok.0)

pub returns-clause-exact : goal.returns-clause-exact
returns-clause-exact c = λ j l. c.loop-j.invariant.done j (let end = c.loop-j-test.false in let n = c.len-j-end.ensures in omega arith)

pub returns-clause-fine : goal.returns-clause-fine
returns-clause-fine c = differences_fine (vec_len c.args.sums) c.args.sums.items c.loop-j.sums.items (target_at c.args.target.now) c.loop-j.j (let end = c.loop-j-test.false in let n = c.len-j-end.ensures in omega arith) c.loop-j.invariant
