use Rattle.std.proofs.Common.{ℕ, ◌<◌, subst, sym, w64, arith}
use Rattle.std.specs.Prelude.{ℤ, ◌≤ℤ◌, FitsSigned}
use Rattle.sm_lanes.specs.Numbers.{number_at}
use Rattle.sm_lanes.proofs.BlockSteps.{in_block}
use Rattle.sm_lanes.proofs.ComparedLanes.{none_above}
use Rattle.sm_lanes.proofs.numbers.is_quiet.Goals as goal

pub returns : goal.returns
returns c = λ empty.
    let at = c.args.at in
    let loaded = c.load.ensures in
    let P : ℤ → Type 0 = λ x. FitsSigned w64 x in
    let Q : ℤ → Type 0 = λ x. x ≤ℤ c.args.bound in
    let fits : (j : ℕ) → j < 8 → FitsSigned w64 (number_at c.load.result j) =
    λ j l. subst P (sym (loaded.lanes j l)) (loaded.fits j l) in
    let quiet = none_above 8 c.load.result c.args.bound loaded.long (omega arith) c.ranges.bound fits empty in
    in_block (λ k. number_at c.args.numbers.now k ≤ℤ c.args.bound) at 8 (λ j l. subst Q (loaded.lanes j l) (quiet j l))
