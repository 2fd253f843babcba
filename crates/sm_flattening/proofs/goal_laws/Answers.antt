use Rattle.sm_flattening.proofs.Goals.{goal_worth, goal_worths}
use Rattle.sm_flattening.proofs.goal_laws.Goals as goal

pub returns-clause-worth : goal.returns-clause-worth
returns-clause-worth c = goal_worth

pub returns-clause-worths : goal.returns-clause-worths
returns-clause-worths c = goal_worths
