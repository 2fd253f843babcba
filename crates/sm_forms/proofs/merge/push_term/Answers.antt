use Rattle.std.proofs.Common.{◌≡◌, ◌≢◌, ◌∙◌, ◌+◌, ap, arith, w64, FitsSigned, rules}
use Rattle.std.specs.Int.{w128}
use Rattle.std.specs.Prelude.{pos, ◌+ℤ◌, ◌*ℤ◌}
use Rattle.std.proofs.lemmas.Int.{to_z-of_z}
use Rattle.sm_kinds.specs.Sums.{sum_at}
use Rattle.sm_forms.proofs.Merges.{rises-push, sum-push, wider}
use Rattle.sm_forms.proofs.merge.push_term.Goals as goal

pub returns-in_ok-push-clause-rises : goal.returns-in_ok-push-clause-rises
returns-in_ok-push-clause-rises c = λ from le h.
    let fits : FitsSigned w64 c.in_ok-coefficient.coefficient = search rules in
    let e = to_z-of_z w64 c.in_ok-coefficient.coefficient fits in
    let nonzero : c.in_ok-coefficient.coefficient ≢ pos 0 = search rules in
    rw (c.in_ok-push.ensures.ok, e) (rises-push from 0 c.args.var c.in_ok-coefficient.coefficient c.args.terms.now (omega arith) le nonzero c.in_ok-coefficient.ensures.small h)

pub returns-in_ok-push-clause-total : goal.returns-in_ok-push-clause-total
returns-in_ok-push-clause-total c = λ p.
    let z = c.in_ok-coefficient.coefficient in
    let fits : FitsSigned w64 z = search rules in
    let same : z ≡ c.args.coefficient = c.in_ok-coefficient.ensures.same ∙ to_z-of_z w128 c.args.coefficient c.ranges.coefficient in
    rw (c.in_ok-push.ensures.ok, to_z-of_z w64 z fits)
    (sum-push c.args.terms.now (c.args.var, z) p ∙ ap (λ x. sum_at c.args.terms.now p +ℤ (x *ℤ p c.args.var)) same)

pub returns-else-coefficient-ne0-clause-rises : goal.returns-else-coefficient-ne0-clause-rises
returns-else-coefficient-ne0-clause-rises c = λ from le h. wider from (c.args.var + 1) 0 c.args.terms.now (omega arith) h
