use Rattle.std.proofs.Common.{◌↔◌, drop}
use Rattle.sm_store.specs.Stores.{TightensEach}
use Rattle.rule_basic.proofs.turns.tighten_all.Given as goal

-- what the rest does to the store as it is now, all do to the store as it was
abbrev pub invariant-loop-literal : goal.invariant-loop-literal
invariant-loop-literal l = TightensEach l.store (drop l.literal-index l.literals) ↔ TightensEach l.fn.store l.literals
