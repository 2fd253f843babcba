use Rattle.std.proofs.Common.{drop}
use Rattle.std.specs.Prelude.{◌↔◌}
use Rattle.sm_clausify.specs.Propositions.{meanings, EachLiteralOfAll, HasSmallBound}
use Rattle.sm_clausify.proofs.bounds.+bounds.Given as goal

-- the parts to come decide
abbrev pub invariant-all_have_small_bounds-loop-part : goal.invariant-all_have_small_bounds-loop-part
invariant-all_have_small_bounds-loop-part l = EachLiteralOfAll HasSmallBound (meanings (drop l.part-index l.parts)) ↔ EachLiteralOfAll HasSmallBound (meanings l.parts)
