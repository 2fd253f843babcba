use Rattle.std.proofs.Common.{◌≡◌, ◌++◌, drop, length}
use Rattle.std.specs.List.{flat_map}
use Rattle.sm_declarations.proofs.Members.{behind}
use Rattle.sm_declarations.proofs.names.+push_names.Given as goal

abbrev pub decreases-push_names : goal.decreases-push_names
decreases-push_names l = length l.ranges.now

-- the names so far, and those behind the numbers to come
abbrev pub invariant-loop-number : goal.invariant-loop-number
invariant-loop-number l =
    l.names.items ++ flat_map (behind l.name l.indices l.rest) (drop l.number-index l.number-items) ≡ l.fn.names.items ++ flat_map (behind l.name l.indices l.rest) l.number-items
