use Rattle.std.proofs.Common.{◌≡◌, ℕ, drop}
use Rattle.sm_meaning.specs.Expansions.{Expansion}
use Rattle.sm_meaning.specs.Models.{benders_tried}
use Rattle.sm_declarations.specs.Making.{IsMakingOf}
use Rattle.sm_expand.proofs.subproblems.try_subproblems.Given as goal

abbrev pub invariant-loop-var : goal.invariant-loop-var
invariant-loop-var l = (e : Expansion) (count : ℕ) → IsMakingOf e l.made → benders_tried e.posts l.var (drop l.var e.variables) count ≡ benders_tried e.posts 0 e.variables count
