use Rattle.std.proofs.Common.{◌∙◌, ap, ℕ, take, drop, rules, FitsSigned}
use Rattle.std.specs.Int.{w128}
use Rattle.std.proofs.lemmas.Int.{to_z-of_z}
use Rattle.sm_step.proofs.Numbers.{whole_some, whole_none}
use Rattle.sm_step.proofs.cursor.next_whole.Goals as goal

pub returns-in_err-number-clause-none : goal.returns-in_err-number-clause-none
returns-in_err-number-clause-none c =
    let front = c.split_at.ensures.front ∙ ap (λ (n : ℕ). take n c.args.bytes.now) c.whole_length.ensures.value in
    let none = whole_none c.args.bytes.now c.split_at.result.0.now front (λ z fits e. let read = c.in_err-number.ensures.only z fits e in absurd (cc)) in
    let e = c.from_residual.ensures in
    rw e none

pub returns-clause-some : goal.returns-clause-some
returns-clause-some c =
    let front = c.split_at.ensures.front ∙ ap (λ (n : ℕ). take n c.args.bytes.now) c.whole_length.ensures.value in
    let back = c.split_at.ensures.back ∙ ap (λ (n : ℕ). drop n c.args.bytes.now) c.whole_length.ensures.value in
    let fits : FitsSigned w128 c.in_ok-number.number = search rules in
    let some = whole_some c.args.bytes.now c.split_at.result.0.now c.split_at.result.1.now c.in_ok-number.number fits front back c.in_ok-number.ensures.found in
    rw (to_z-of_z w128 c.in_ok-number.number fits) some
