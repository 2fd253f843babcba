use Rattle.std.proofs.Common.{pos, refl, arith, ◌^◌}
use Rattle.std.specs.Prelude.{◌≤ℤ◌, ◌<ℤ◌}
use Rattle.std.proofs.lemmas.Int.{ints, to_z-of_z}
use Rattle.std.proofs.lemmas.Result.{err_from_is_err_and}
use Rattle.std.proofs.Common.{SFits, w64}
use Rattle.std.specs.Int.{w128}
use Rattle.sm_lp.proofs.JoinLemmas.{small_ok, small_passed, great_least, great_ok, great_passed, first_passed}
use Rattle.sm_lp.proofs.ending.joined.Goals as goal

pub returns-in_err-common-clause-passed : goal.returns-in_err-common-clause-passed
returns-in_err-common-clause-passed c =
    let a : SFits w64 c.args.common = c.ranges.common in
    let d : SFits w128 c.args.denominator = c.ranges.denominator in
    let p = err_from_is_err_and c.from_residual.result c.from_residual.ensures.1 in
    let big : pos (2 ^ 52) <ℤ c.args.denominator = let no = c.if-denominator-le-MOST.false in omega (arith, ints) in
    let e = c.in_err-common.ensures in
    rw (p.1, p.2) (first_passed c.args.common c.args.denominator c.in_err-common.field-0.0 big c.requires.common.0 (simp to_z-of_z at e.passed.0 refl) e.carried (simp to_z-of_z at e.carried_left) e.carried_right)

pub lcm_52-requires-else-denominator-le-MOST-2-clause-left : goal.lcm_52-requires-else-denominator-le-MOST-2-clause-left
lcm_52-requires-else-denominator-le-MOST-2-clause-left c =
    let a : SFits w64 c.args.common = c.ranges.common in
    let e = c.in_ok-common.ensures in
    let is = great_least c.args.common c.in_ok-common.common (simp to_z-of_z at e.exact) e.above (λ p. absurd (let x = e.passed.1 (simp to_z-of_z p) in cc)) in
    (omega (arith, ints), omega (arith, ints))

pub returns-then-denominator-le-MOST-clause-joined : goal.returns-then-denominator-le-MOST-clause-joined
returns-then-denominator-le-MOST-clause-joined c =
    let a : SFits w64 c.args.common = c.ranges.common in
    let d : SFits w128 c.args.denominator = c.ranges.denominator in
    let small : c.args.denominator ≤ℤ pos (2 ^ 52) = let yes = c.if-denominator-le-MOST.true in omega (arith, ints) in
    let some = c.requires.denominator in
    let b : SFits w64 c.args.denominator = omega (arith, ints) in
    let e = c.lcm_52.ensures in
    small_ok c.args.common c.args.denominator c.lcm_52.result c.requires.common.0 c.requires.common.1 (omega (arith, ints)) small e.above (simp to_z-of_z at e.exact) (simp to_z-of_z at e.passed.1)

pub returns-then-denominator-le-MOST-clause-passed : goal.returns-then-denominator-le-MOST-clause-passed
returns-then-denominator-le-MOST-clause-passed c =
    let a : SFits w64 c.args.common = c.ranges.common in
    let d : SFits w128 c.args.denominator = c.ranges.denominator in
    let small : c.args.denominator ≤ℤ pos (2 ^ 52) = let yes = c.if-denominator-le-MOST.true in omega (arith, ints) in
    let some = c.requires.denominator in
    let b : SFits w64 c.args.denominator = omega (arith, ints) in
    let e = c.lcm_52.ensures in
    small_passed c.args.common c.args.denominator c.lcm_52.result c.requires.common.0 c.requires.common.1 (omega (arith, ints)) small (simp to_z-of_z at e.passed.0) e.carried (simp to_z-of_z at e.carried_left) (simp to_z-of_z at e.carried_right)

pub returns-in_ok-common-clause-joined : goal.returns-in_ok-common-clause-joined
returns-in_ok-common-clause-joined c =
    let a : SFits w64 c.args.common = c.ranges.common in
    let f = c.in_ok-common.ensures in
    let is = great_least c.args.common c.in_ok-common.common (simp to_z-of_z at f.exact) f.above (λ p. absurd (let x = f.passed.1 (simp to_z-of_z p) in cc)) in
    let b : SFits w64 c.in_ok-common.common = omega (arith, ints) in
    let e = c.lcm_52-else-denominator-le-MOST-2.ensures in
    great_ok c.args.common c.args.denominator c.in_ok-common.common c.lcm_52-else-denominator-le-MOST-2.result is e.above (simp to_z-of_z at e.exact) (simp to_z-of_z at e.passed.1)

pub returns-in_ok-common-clause-passed : goal.returns-in_ok-common-clause-passed
returns-in_ok-common-clause-passed c =
    let a : SFits w64 c.args.common = c.ranges.common in
    let d : SFits w128 c.args.denominator = c.ranges.denominator in
    let f = c.in_ok-common.ensures in
    let l = simp to_z-of_z at f.exact in
    let is = great_least c.args.common c.in_ok-common.common l f.above (λ p. absurd (let x = f.passed.1 (simp to_z-of_z p) in cc)) in
    let b : SFits w64 c.in_ok-common.common = omega (arith, ints) in
    let big : pos (2 ^ 52) <ℤ c.args.denominator = let no = c.if-denominator-le-MOST.false in omega (arith, ints) in
    let e = c.lcm_52-else-denominator-le-MOST-2.ensures in
    great_passed c.args.common c.args.denominator c.in_ok-common.common c.lcm_52-else-denominator-le-MOST-2.result big is l (simp to_z-of_z at e.passed.0) e.carried (simp to_z-of_z at e.carried_left) e.carried_right
