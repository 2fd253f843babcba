use Rattle.std.proofs.Common.{◌≡◌, ◌++◌, map, drop}
use Rattle.sm_clausify.specs.Tallies.{tally_of}
use Rattle.sm_clausify.proofs.tally.+tallying.Given as goal

-- the tallies so far, and those to come
abbrev pub invariant-tallies_of-loop-formula : goal.invariant-tallies_of-loop-formula
invariant-tallies_of-loop-formula l = l.tallies ++ map tally_of (drop l.formula-index l.formulas) ≡ map tally_of l.formulas
