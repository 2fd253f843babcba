use Rattle.std.proofs.Common.{◌≡◌, ◌≤◌, Bool}
use Rattle.std.specs.Prelude.{◌↔◌}
use Rattle.sm_clausify.specs.Propositions.{meaning, EachLiteral, HasSmallBound}
use Rattle.sm_clausify.specs.Clauses.{clauses_of}
use Rattle.sm_clausify.specs.Tallies.{flipped_if, parts_in, tally_of, turned}
use Rattle.sm_clausify.specs.declared.formula.Formula.{size-Formula}
use Rattle.sm_clausify.proofs.nots.behind_nots.Given as goal

-- what is left stands behind the `not`s so far
abbrev pub invariant-loop-inner : goal.invariant-loop-inner
invariant-loop-inner l = record {
  under : size-Formula l.inner ≤ size-Formula l.formula;
  parts : parts_in (tally_of l.formula) ≡ parts_in (tally_of l.inner);
  tally : tally_of l.formula ≡ flipped_if l.is_odd (tally_of l.inner);
  clauses : (negated : Bool) → clauses_of (meaning l.formula) negated ≡ clauses_of (meaning l.inner) (turned l.is_odd negated);
  small : EachLiteral HasSmallBound (meaning l.formula) ↔ EachLiteral HasSmallBound (meaning l.inner);
}
