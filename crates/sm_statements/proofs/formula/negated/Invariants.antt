use Rattle.std.proofs.Common.{◌≡◌, drop}
use Rattle.sm_clausify.specs.Propositions.{meaning}
use Rattle.sm_statements.specs.Negations.{behind}
use Rattle.sm_statements.proofs.formula.negated.Given as goal

-- the negations to come complete what is made
abbrev pub invariant-loop-place : goal.invariant-loop-place
invariant-loop-place l = behind (drop l._place-index l.negations) (meaning l.inner) ≡ behind l.negations (meaning l.fn.formula)
