use Rattle.std.proofs.Common.{rules, subst}
use Rattle.sm_step.specs.declared.line.Line.{Line}
use Rattle.sm_rules.specs.Laws.{Allowed, Lawful, LawfulVerdict}
use Rattle.sm_rules.proofs.Kept.{of_after}
use Rattle.sm_rules.proofs.Keeping.{sound_after, verdict_is_true}
use Rattle.sm_rules.proofs.log_state.LogState.apply.Goals as goal

pub returns-clause-of : goal.returns-clause-of
returns-clause-of c =
    let ok : Allowed c.args.flat.now c.args.self.now c.args.line.now = search rules in
    rw c.in_ok-step.ensures.after (of_after c.args.flat.now c.args.self.now c.args.line.now c.requires ok)

pub returns-clause-sound : goal.returns-clause-sound
returns-clause-sound c s within sound =
    let ok : Allowed c.args.flat.now c.args.self.now c.args.line.now = search rules in
    rw c.in_ok-step.ensures.after (sound_after c.args.flat.now s c.args.self.now c.args.line.now c.requires ok within sound)

pub returns-clause-holds : goal.returns-clause-holds
returns-clause-holds c s v is sound =
    let ok : Allowed c.args.flat.now c.args.self.now c.args.line.now = search rules in
    let P = λ (l : Line). Lawful c.args.flat.now c.args.self.now l in
    let law : LawfulVerdict c.args.flat.now c.args.self.now v = subst P is ok.law in
    verdict_is_true c.args.flat.now s c.args.self.now v sound law
