use Rattle.std.proofs.Common.{◌≡◌, ◌≤◌}
use Rattle.sm_clausify.specs.declared.formula.Formula.{size-Formula}
use Rattle.sm_clausify.specs.Propositions.{meaning}
use Rattle.sm_meaning.specs.Limits.{literal_bounds}
use Rattle.sm_drafts.proofs.literals.behind_nots.Given as goal

-- what is left stands behind the `not`s so far
abbrev pub invariant-loop-inner : goal.invariant-loop-inner
invariant-loop-inner l = record {
  under : size-Formula l.inner ≤ size-Formula l.formula;
  bounds : literal_bounds (meaning l.inner) ≡ literal_bounds (meaning l.formula);
}
