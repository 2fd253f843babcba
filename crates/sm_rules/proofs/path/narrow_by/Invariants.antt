use Rattle.std.proofs.Common.{◌≡◌, length, drop}
use Rattle.sm_rules.proofs.path.narrow_by.Given as goal
use Rattle.sm_store.specs.Stores.{narrow_all}

abbrev pub invariant-loop-literal : goal.invariant-loop-literal
invariant-loop-literal l = record {
  wide : length l.store ≡ length l.fn.store;
  rest : narrow_all l.store (drop l.literal-index l.literals) ≡ narrow_all l.fn.store l.fn.literals;
}
