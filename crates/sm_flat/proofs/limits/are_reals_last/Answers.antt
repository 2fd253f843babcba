use Rattle.std.proofs.Common.{◌<◌, ◌+◌, rules, subst, sym, length}
use Rattle.std.specs.Prelude.{All, IsTrue}
use Rattle.sm_kinds.specs.Vars.{IsDiscrete}
use Rattle.sm_flat.specs.Goals.{no_goal}
use Rattle.sm_flat.specs.declared.goal.Goal.{Goal}
use Rattle.sm_flat.proofs.Elements.{read_at_default}
use Rattle.sm_flat.proofs.limits.are_reals_last.Goals as goal

pub returns-then-not-has_no_real : goal.returns-then-not-has_no_real
returns-then-not-has_no_real c =
    let read = read_at_default c.args.goals.now c.loop-i.i c.index-goals-i.result no_goal c.loop-i-test.true c.index-goals-i.is in
    let within : c.loop-i.i + 1 < length c.args.goals.now = search rules in
    ((λ f. absurd (cc)), (λ h. subst (λ b. IsTrue b) c.if-not-has_no_real.true (c.has_no_real.ensures.1 (subst (λ (x : Goal). All (λ t. IsDiscrete c.args.vars.now t.0) x.terms) (sym read) (h c.loop-i.i within)))))
