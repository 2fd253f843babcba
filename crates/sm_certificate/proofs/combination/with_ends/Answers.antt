use Rattle.std.proofs.Common.{◌<◌, arith, pos, get_or, sym}
use Rattle.std.proofs.lemmas.Result.{err_from_is_err_and}
use Rattle.sm_frac.specs.Rational.{whole_ℚ}
use Rattle.sm_frac.specs.Frac.{value_of}
use Rattle.sm_certificate.specs.Numbers.{number_at}
use Rattle.sm_certificate.specs.Program.{column_count}
use Rattle.sm_certificate.proofs.NumberLemmas.{number_read}
use Rattle.sm_certificate.proofs.CombinationLemmas.{ends_here, ends_start, ends_more, ends_end, ends_fine, end_at}
use Rattle.sm_certificate.proofs.combination.with_ends.Goals as goal

pub loop-j-init : goal.loop-j-init
loop-j-init c = ends_start c.args.program.now (value_of c.args.bound) (number_at c.args.rest.now)

pub returns-in_err-bound-clause-passed : goal.returns-in_err-bound-clause-passed
returns-in_err-bound-clause-passed c =
    let q = err_from_is_err_and c.from_residual.result c.from_residual.ensures.1 in
    let e = c.in_err-bound.field-0.0 in
    let p = c.args.program.now in
    let rest = c.args.rest.now in
    let j = c.loop-j.j in
    let end = get_or c.as_slice-columns.result.now j (pos 0, pos 0) in
    let column : j < column_count p = (let l = c.loop-j-test.true in let n = c.requires in omega arith) in
    let here = number_read rest j c.index-rest-j.result c.loop-j-test.true c.index-rest-j.is in
    let is = ends_here p c.as_slice-columns.result.now j c.as_slice-columns.ensures in
    rw (q.1, q.2) (end_at p (value_of c.args.bound) (number_at rest) j (value_of c.loop-j.bound) (value_of c.index-rest-j.result) (whole_ℚ end.0) (whole_ℚ end.1) e.op e.left e.right column c.loop-j.invariant.exact (sym here) is.0 is.1 c.in_err-bound.ensures.passed)

pub loop-j-preserved : goal.loop-j-preserved
loop-j-preserved c =
    let p = c.args.program.now in
    let rest = c.args.rest.now in
    let j = c.loop-j.j in
    let end = get_or c.as_slice-columns.result.now j (pos 0, pos 0) in
    let here = number_read rest j c.index-rest-j.result c.loop-j-test.true c.index-rest-j.is in
    let is = ends_here p c.as_slice-columns.result.now j c.as_slice-columns.ensures in
    ends_more p (value_of c.args.bound) (number_at rest) j (value_of c.loop-j.bound) (value_of c.in_ok-bound.bound) (value_of c.index-rest-j.result) (whole_ℚ end.0) (whole_ℚ end.1) (sym here) is.0 is.1 c.in_ok-bound.ensures.exact c.in_ok-bound.ensures.fine c.loop-j.invariant

pub returns-clause-exact : goal.returns-clause-exact
returns-clause-exact c =
    let n = c.requires in
    let m = c.loop-j.auto.j-end in
    ends_end c.args.program.now (value_of c.args.bound) (number_at c.args.rest.now) c.loop-j.j (value_of c.loop-j.bound) (let l = c.loop-j-test.false in omega arith) c.loop-j.invariant

pub returns-clause-fine : goal.returns-clause-fine
returns-clause-fine c =
    let n = c.requires in
    ends_fine c.args.program.now (value_of c.args.bound) (number_at c.args.rest.now) c.loop-j.j (value_of c.loop-j.bound) (let l = c.loop-j-test.false in omega arith) c.loop-j.invariant
