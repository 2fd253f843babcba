-- Where a node is split.
use Rattle.std.specs.Prelude.{List}
use Rattle.sm_kinds.specs.declared.literal.Literal.{Literal}
use Rattle.sm_kinds.specs.Literals.{complement}
use Rattle.sm_store.specs.Stores.{Extent, Narrows}

-- the literal and its complement both narrow the store and leave it nonempty
pub record Splits (store : List Extent) (l : Literal) : Type 0 where
  pub first : Narrows store l
  pub second : Narrows store (complement l)
