use Rattle.std.proofs.Common.{◌≡◌, ◌≤◌, length, take}
use Rattle.sm_rules.specs.KeptNodes.{narrow_along}
use Rattle.sm_rules.proofs.path.narrow_by_path.Given as goal

abbrev pub invariant-loop-rest : goal.invariant-loop-rest
invariant-loop-rest l = record {
  within : l.rest ≤ length l.path;
  wide : length l.store ≡ length l.fn.store;
  rest : narrow_along l.store l.nodes (take l.rest l.path) ≡ narrow_along l.fn.store l.nodes l.path;
}

abbrev pub decreases-loop-rest : goal.decreases-loop-rest
decreases-loop-rest l = l.rest
