use Rattle.std.proofs.Common.{arith, refl}
use Rattle.std.proofs.lemmas.Int.{to_z-of_z, ints}
use Rattle.sm_frac.proofs.Multiples.{multiple_moved, multiple_read, one_multiple}
use Rattle.sm_frac.proofs.multiple.lcm_52.Goals as goal

pub returns-then-multiple-clause-above : goal.returns-then-multiple-clause-above
returns-then-multiple-clause-above c =
    let f = c.ranges.left in let g = c.ranges.right in
    let is = multiple_moved c.args.left c.args.right _ _ _ (simp to_z-of_z at c.unsigned_abs.ensures.value) (simp to_z-of_z at c.unsigned_abs-2.ensures.value) c.least_multiple-multiple.ensures in
    (multiple_read _ _ _ (omega (arith, ints)) (omega (arith, ints)) (omega arith) is).0

pub returns-then-multiple-clause-exact : goal.returns-then-multiple-clause-exact
returns-then-multiple-clause-exact c =
    let f = c.ranges.left in let g = c.ranges.right in
    let is = multiple_moved c.args.left c.args.right _ _ _ (simp to_z-of_z at c.unsigned_abs.ensures.value) (simp to_z-of_z at c.unsigned_abs-2.ensures.value) c.least_multiple-multiple.ensures in
    (multiple_read _ _ _ (omega (arith, ints)) (omega (arith, ints)) (omega arith) is).1

pub returns-else-multiple-clause-passed : goal.returns-else-multiple-clause-passed
returns-else-multiple-clause-passed c =
    let f = c.ranges.left in let g = c.ranges.right in
    let is = multiple_moved c.args.left c.args.right _ _ _ (simp to_z-of_z at c.unsigned_abs.ensures.value) (simp to_z-of_z at c.unsigned_abs-2.ensures.value) c.least_multiple-multiple.ensures in
    (λ _ m h. let e = one_multiple _ _ _ _ h is in omega arith, λ _. refl)

pub returns-then-multiple-clause-passed : goal.returns-then-multiple-clause-passed
returns-then-multiple-clause-passed c =
    let f = c.ranges.left in let g = c.ranges.right in
    let is = multiple_moved c.args.left c.args.right _ _ _ (simp to_z-of_z at c.unsigned_abs.ensures.value) (simp to_z-of_z at c.unsigned_abs-2.ensures.value) c.least_multiple-multiple.ensures in
    (λ e. absurd (cc), λ h. let big = h _ is in absurd (omega arith))
