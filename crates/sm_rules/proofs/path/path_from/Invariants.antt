use Rattle.std.proofs.Common.{◌<◌, length}
use Rattle.std.specs.Prelude.{All, IfSome}
use Rattle.sm_rules.proofs.Paths.{Climbs, left_above}
use Rattle.sm_rules.proofs.path.path_from.Given as goal

abbrev pub invariant-loop-next : goal.invariant-loop-next
invariant-loop-next l = record {
  places : All (λ p. p < length l.nodes) l.path.items;
  next : IfSome l.next (λ p. p < length l.nodes);
  climbs : Climbs l.nodes l.path.items l.next l.fn.place;
}

abbrev pub decreases-loop-next : goal.decreases-loop-next
decreases-loop-next l = left_above l.next
