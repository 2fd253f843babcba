use Rattle.std.proofs.Common.{◌≡◌, take}
use Rattle.sm_meaning.specs.Expansions.{beginning, scope_of}
use Rattle.sm_declarations.proofs.making.known.Given as goal

abbrev pub invariant-loop-index : goal.invariant-loop-index
invariant-loop-index l = l.scope ≡ scope_of (beginning (take l.index l.tables))
