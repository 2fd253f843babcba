use Rattle.sm_rules.proofs.Kept.{of_start}
use Rattle.sm_rules.proofs.Keeping.{sound_start}
use Rattle.sm_rules.proofs.log_state.LogState.new.Goals as goal

pub returns-clause-of : goal.returns-clause-of
returns-clause-of c = rw c.in_ok-main.ensures.root (of_start c.args.flat.now c.in_ok-main.ensures.limits)

pub returns-clause-sound : goal.returns-clause-sound
returns-clause-sound c s = rw c.in_ok-main.ensures.root (sound_start c.args.flat.now s c.in_ok-main.ensures.limits)
