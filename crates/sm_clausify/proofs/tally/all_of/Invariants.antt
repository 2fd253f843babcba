use Rattle.std.proofs.Common.{◌≡◌, map, drop}
use Rattle.std.specs.Prelude.{fold}
use Rattle.sm_clausify.specs.Counting.{all_counts, and_counts}
use Rattle.sm_clausify.specs.Tallies.{counts_in}
use Rattle.sm_clausify.proofs.tally.all_of.Given as goal

-- the parts to come complete the counts
abbrev pub invariant-loop-part : goal.invariant-loop-part
invariant-loop-part l = fold and_counts l.all (map counts_in (drop l.part-index l.parts)) ≡ all_counts (map counts_in l.parts)
