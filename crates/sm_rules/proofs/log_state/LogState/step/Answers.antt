use Rattle.sm_rules.proofs.Kept.{of_after}
use Rattle.sm_rules.proofs.Keeping.{sound_after}
use Rattle.sm_rules.proofs.log_state.LogState.step.Goals as goal

pub returns-clause-of : goal.returns-clause-of
returns-clause-of c = rw c.in_ok-change.ensures.after (of_after c.args.flat.now c.args.self.now c.args.line.now c.requires.of c.requires.allowed)

pub returns-clause-sound : goal.returns-clause-sound
returns-clause-sound c s within sound = rw c.in_ok-change.ensures.after (sound_after c.args.flat.now s c.args.self.now c.args.line.now c.requires.of c.requires.allowed within sound)
