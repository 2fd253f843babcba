use Rattle.std.proofs.Common.{ℕ, ◌<◌, ◌≤ℤ◌, pos, slice_index_or}
use Rattle.sm_kinds.specs.Packing.{load_of}
use Rattle.sm_kinds.proofs.packing.are_within.Given as goal

-- the groups so far hold no more than their capacities
abbrev pub invariant-loop-g : goal.invariant-loop-g
invariant-loop-g g l = (k : ℕ) → k < l.g → load_of (g.V.Values.point l.a) k l.items ≤ℤ slice_index_or l.capacities k (pos 0)
