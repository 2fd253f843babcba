use Rattle.std.proofs.Common.{◌-◌, length}
use Rattle.sm_kinds.specs.Literals.{passes}
use Rattle.sm_store.proofs.WordPlaces.{IsKeptUpto}
use Rattle.sm_store.proofs.words.keep.Given as goal

abbrev pub invariant-loop-at : goal.invariant-loop-at
invariant-loop-at l = IsKeptUpto (passes l.literal) l.base l.initial.words l.words l.at

abbrev pub decreases-loop-at : goal.decreases-loop-at
decreases-loop-at l = length l.words - l.at
