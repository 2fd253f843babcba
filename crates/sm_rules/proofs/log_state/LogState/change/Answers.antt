use Rattle.std.proofs.Common.{subst}
use Rattle.sm_step.specs.declared.line.Line.{Line}
use Rattle.sm_rows.specs.Inferences.{IsInference}
use Rattle.sm_rules.specs.Trees.{focus_of}
use Rattle.sm_rules.specs.Laws.{Lawful}
use Rattle.sm_rules.proofs.Outcomes.{outcome_known}
use Rattle.sm_rules.proofs.log_state.LogState.change.Goals as goal

pub conclude-requires-clause-known : goal.conclude-requires-clause-known
conclude-requires-clause-known c =
    let m = c.args.flat.now in
    let store = (focus_of c.args.self.now.main).store in
    let law : IsInference m store c.in-Infer.rule c.in-Infer.result = subst (λ (l : Line). Lawful m c.args.self.now l) c.in-Infer.is c.requires.allowed.law in
    rw (← c.self-in-Infer.view_is) at (outcome_known m store c.in-Infer.rule c.in-Infer.result law)
