use Rattle.std.proofs.Common.{◌≡◌, ◌++◌, ◌+◌, ◌*◌, drop}
use Rattle.sm_clausify.specs.Propositions.{meanings}
use Rattle.sm_clausify.specs.Clauses.{in_turn, join, joined}
use Rattle.sm_clausify.proofs.build.+building.Given as goal

-- the clauses so far, and those to come
abbrev pub invariant-in_turn-loop-i : goal.invariant-in_turn-loop-i
invariant-in_turn-loop-i l = l.clauses.items ++ in_turn (meanings (drop l.i l.parts)) l.negated ≡ in_turn (meanings l.parts) l.negated

abbrev pub invariant-joined-loop-i : goal.invariant-joined-loop-i
invariant-joined-loop-i l = join l.clauses.items (joined (meanings (drop l.i l.parts)) l.negated) ≡ joined (meanings l.parts) l.negated

-- each call goes to a part, or one step down at the same formula
abbrev pub decreases-clauses_if : goal.decreases-clauses_if
decreases-clauses_if a = 4 * goal.size-clauses_if a + 4

abbrev pub decreases-clauses_at : goal.decreases-clauses_at
decreases-clauses_at a = 4 * goal.size-clauses_at a + 3

abbrev pub decreases-clauses_behind : goal.decreases-clauses_behind
decreases-clauses_behind a = 4 * goal.size-clauses_behind a + 2

abbrev pub decreases-gathered : goal.decreases-gathered
decreases-gathered a = 4 * goal.size-gathered a + 5

abbrev pub decreases-in_turn : goal.decreases-in_turn
decreases-in_turn a = 4 * goal.size-in_turn a + 4

abbrev pub decreases-joined : goal.decreases-joined
decreases-joined a = 4 * goal.size-joined a + 4
