use Rattle.sm_scopes.proofs.cases.+turn.Given as goal

abbrev pub decreases-turn : goal.decreases-turn
decreases-turn l = l.count
