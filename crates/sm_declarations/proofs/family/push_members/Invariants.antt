use Rattle.std.proofs.Common.{◌≡◌, ◌+◌, map, take}
use Rattle.sm_meaning.specs.Scopes.{count_of}
use Rattle.sm_declarations.specs.Growth.{Grows}
use Rattle.sm_declarations.proofs.Growing.{var_of}
use Rattle.sm_declarations.proofs.family.push_members.Given as goal

abbrev pub invariant-loop-name : goal.invariant-loop-name
invariant-loop-name l = record {
  grows : Grows l.fn.made l.made l.place (map (var_of l.kind l.values) (take l.name-index l.names));
  names : l.made.scope.names ≡ l.fn.made.scope.names;
  count : count_of l.made.scope ≡ count_of l.fn.made.scope + l.name-index;
}
