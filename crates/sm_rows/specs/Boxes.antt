-- Boxes: the least and the greatest value that a column has in a store.
use Rattle.std.specs.Prelude.{ℕ, List, [], ◌∷◌, ℤ, pos, Bool, true, false, ◌&&◌, int_le, if◌then◌else◌, Option, Some, None}
use Rattle.std.specs.Ordering.{int_eq}
use Rattle.sm_kinds.specs.declared.var.VarKind.{VarKind}
use Rattle.sm_kinds.specs.declared.var.VarKind.TheVariants.{Set, Int, Real}
use Rattle.sm_step.specs.declared.row.Col.{Col}
use Rattle.sm_step.specs.declared.row.Col.TheVariants.{Var, Is}
use Rattle.sm_store.specs.Stores.{Extent, extent_at, least_of, greatest_of, fixed_value}

abbrev pub is_one_of : ℤ → List ℤ → Bool
is_one_of v [] = false
is_one_of v (w ∷ ws) = if int_eq v w then true else is_one_of v ws

-- the number lies between the two ends
abbrev pub is_inside : ℤ → List ℤ → Bool
is_inside v [] = false
is_inside v (w ∷ []) = false
is_inside v (least ∷ greatest ∷ vs) = int_le least v && int_le v greatest

-- the whole number is a value, as the kind reads the numbers
abbrev pub is_value : VarKind → List ℤ → ℤ → Bool
is_value Set values v = is_one_of v values
is_value Int values v = is_inside v values
is_value Real values v = is_inside v values

-- the variable has this value alone
abbrev pub is_only : Option ℤ → ℤ → Bool
is_only None v = false
is_only (Some w) v = int_eq w v

-- 0 to 0 where the number is no value, 1 to 1 where it is the only one, else 0 to 1
abbrev pub indicator_box : Extent → ℤ → ℤ × ℤ
indicator_box e v = if is_value e.kind e.values v then (if is_only (fixed_value e.kind e.values) v then (pos 1, pos 1) else (pos 0, pos 1)) else (pos 0, pos 0)

abbrev pub box_of : List Extent → Col → ℤ × ℤ
box_of store (Var i) = (least_of (extent_at store i), greatest_of (extent_at store i))
box_of store (Is i v) = indicator_box (extent_at store i) v

-- the variable of a column
abbrev pub variable_of : Col → ℕ
variable_of (Var i) = i
variable_of (Is i v) = i
