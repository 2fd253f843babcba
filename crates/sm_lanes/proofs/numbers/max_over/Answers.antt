use Rattle.std.proofs.Common.{◌≡◌, ℕ, ◌<◌, ◌∙◌, List, subst, sym, rules, arith, w64, to_z, of_z}
use Rattle.std.specs.Prelude.{ℤ, ◌≤ℤ◌, ◌⊎◌, map, FitsSigned}
use Rattle.std.proofs.lemmas.Int.{to_z-of_z}
use Rattle.std.proofs.lemmas.List.{length-map}
use Rattle.sm_lanes.specs.Numbers.{number_at, IsAmong, IsAtMost}
use Rattle.sm_lanes.proofs.SignedLanes.{bits_back}
use Rattle.sm_lanes.proofs.BlockSteps.{among_more, covers_more, among_last, most_last}
use Rattle.sm_lanes.proofs.numbers.max_over.Goals as goal

pub raise-tops-requires-clause-fits : goal.raise-tops-requires-clause-fits
raise-tops-requires-clause-fits c = c.loop-at.invariant.fits

pub loop-at-preserved : goal.loop-at-preserved
loop-at-preserved c =
    let so_far = c.loop-at.invariant in
    let raised = c.raise-tops.ensures in
    let numbers : List ℤ = c.args.numbers.now in
    let tops : List ℤ = map (to_z w64) c.loop-at.tops in
    let new : List ℤ = c.raise-tops.result in
    let kept : List ℤ = map (to_z w64) (map (of_z w64) new) in
    let back : (j : ℕ) → j < 8 → number_at new j ≡ number_at kept j = λ j l. sym (bits_back new j (omega arith) (raised.fits j l)) in
    let P : ℤ → Type 0 = λ x. FitsSigned w64 x in
    let Q : ℤ → Type 0 = λ x. IsAmong numbers c.args.from c.args.to x in
    let among = among_more numbers tops new c.args.from c.args.to c.loop-at.at 8 so_far.low (omega arith) so_far.among raised.greater in
    let covers = covers_more numbers tops new c.args.from c.loop-at.at 8 so_far.covers raised.greater in
    record {
      low = omega arith;
      high = omega arith;
      long = length-map new (of_z w64) ∙ raised.long;
      fits = λ j l. subst P (back j l) (raised.fits j l);
      among = λ j l. subst Q (back j l) (among j l);
      covers = λ m most. covers m (λ j z l. let R : ℤ → Type 0 = λ x. x ≤ℤ m in subst R (sym (back j l)) (most j z l));
    }

pub returns-clause-reached : goal.returns-clause-reached
returns-clause-reached c =
    let so_far = c.loop-at.invariant in
    let tops : List ℤ = map (to_z w64) c.loop-at.tops in
    let top : ℤ = c.greatest-top.result in
    let most : ℤ = c.greatest-most.result in
    let fits_top : FitsSigned w64 top = search rules in
    let fits_most : FitsSigned w64 most = search rules in
    let P : ℤ → Type 0 = λ x. (top ≡ x) ⊎ IsAmong tops 1 8 top in
    let Q : ℤ → Type 0 = λ x. (most ≡ x) ⊎ IsAmong c.args.numbers.now c.loop-at.at c.args.to most in
    let R : ℤ → Type 0 = λ x. IsAmong c.args.numbers.now c.args.from c.args.to x in
    let lane = subst P (to_z-of_z w64 (number_at tops 0) (so_far.fits 0 (omega arith))) c.greatest-top.ensures.reached in
    let end = subst Q (to_z-of_z w64 top fits_top) c.greatest-most.ensures.reached in
    subst R (sym (to_z-of_z w64 most fits_most))
    (among_last c.args.numbers.now tops c.args.from c.args.to c.loop-at.at 8 top most (omega arith) so_far.low so_far.among lane end)

pub returns-clause-greatest : goal.returns-clause-greatest
returns-clause-greatest c =
    let so_far = c.loop-at.invariant in
    let tops : List ℤ = map (to_z w64) c.loop-at.tops in
    let top : ℤ = c.greatest-top.result in
    let most : ℤ = c.greatest-most.result in
    let fits_top : FitsSigned w64 top = search rules in
    let fits_most : FitsSigned w64 most = search rules in
    let P : ℤ → Type 0 = λ x. x ≤ℤ top in
    let Q : ℤ → Type 0 = λ x. x ≤ℤ most in
    let R : ℤ → Type 0 = λ x. IsAtMost c.args.numbers.now c.args.from c.args.to x in
    let lane = subst P (to_z-of_z w64 (number_at tops 0) (so_far.fits 0 (omega arith))) c.greatest-top.ensures.start in
    let end = subst Q (to_z-of_z w64 top fits_top) c.greatest-most.ensures.start in
    subst R (sym (to_z-of_z w64 most fits_most))
    (most_last c.args.numbers.now tops c.args.from c.args.to c.loop-at.at 8 top most so_far.covers lane c.greatest-top.ensures.greatest end c.greatest-most.ensures.greatest)
