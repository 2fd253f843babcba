-- Lists in order.

-- the one holds exactly where the other does
pub record Alike (P Q : Type 0) : Type 0 where
  pub onward : P → Q
  pub back : Q → P
