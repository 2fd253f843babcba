use Rattle.std.proofs.Common.{sym, ap, ◌∙◌, ◌<◌, ◌≤◌, ◌++◌, ◌∷◌, [], List, length, ℕ, subst, Vec, Global}
use Rattle.std.specs.Prelude.{slice_index_or, nat_lt}
use Rattle.sm_lp.specs.Rule.{place}
use Rattle.sm_lp.proofs.RuleLemmas.{of_less}
use Rattle.sm_lp.proofs.NextLemmas.{not_less}
use Rattle.sm_lp.proofs.EndingLemmas.{below_yes, below_no, below_none}
use Rattle.sm_lp.proofs.ending.basis_below.Goals as goal
use Rattle.sm_lp.proofs.ending.basis_below.Goals.{then-place_of-basic+in_ok-push, else-place_of-basic}

pub loop-number-init : goal.loop-number-init
loop-number-init c = c.new-basis.ensures.items ∙ sym (below_none (λ y. nat_lt (place (λ i. slice_index_or c.args.basic.now i 0) y (length c.args.basic.now)) (length c.args.basic.now)))

pub loop-number-preserved : goal.loop-number-preserved
loop-number-preserved c =
    let xs = c.args.basic.now in
    let number = c.loop-number.number in
    let test = λ (y : ℕ). nat_lt (place (λ i. slice_index_or xs i 0) y (length xs)) (length xs) in
    elim c.if-place_of-basic.branch [
      | then-place_of-basic+in_ok-push w ↦
          let low : place (λ i. slice_index_or xs i 0) number (length xs) < length xs = subst (λ (k : ℕ). k < length xs) c.place_of.ensures w.if-place_of-basic.true in
          ap (λ (v : Vec ℕ Global). v.items) w.basis-is ∙ w.in_ok-push.ensures.items ∙ ap (λ (b : List ℕ). b ++ number ∷ []) c.loop-number.invariant ∙ sym (below_yes test number (of_less (place (λ i. slice_index_or xs i 0) number (length xs)) (length xs) low))
      | else-place_of-basic w ↦
          let high : length xs ≤ place (λ i. slice_index_or xs i 0) number (length xs) = subst (λ (k : ℕ). length xs ≤ k) c.place_of.ensures w.if-place_of-basic.false in
          ap (λ (v : Vec ℕ Global). v.items) w.basis-is ∙ c.loop-number.invariant ∙ sym (below_no test number (not_less (place (λ i. slice_index_or xs i 0) number (length xs)) (length xs) high))
    ]
