use Rattle.std.proofs.Common.{◌≡◌, map, drop}
use Rattle.std.specs.Prelude.{fold}
use Rattle.sm_clausify.specs.Counting.{any_counts, or_counts}
use Rattle.sm_clausify.specs.Tallies.{counts_in}
use Rattle.sm_clausify.proofs.tally.any_of.Given as goal

-- the parts to come complete the counts
abbrev pub invariant-loop-part : goal.invariant-loop-part
invariant-loop-part l = fold or_counts l.any (map counts_in (drop l.part-index l.parts)) ≡ any_counts (map counts_in l.parts)
