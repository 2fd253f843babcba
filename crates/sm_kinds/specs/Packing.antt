-- Packing: each x_i is a group from 0 to G - 1, each group's sizes sum to at most its capacity, and z is the sum of
-- costs_i[x_i] plus the opening costs of the groups that hold an item.
use Rattle.std.specs.Prelude.{◌≡◌, ℕ, ◌+◌, ◌≤◌, List, [], ◌∷◌, length, map, ℤ, pos, ◌+ℤ◌, ◌-ℤ◌, ◌*ℤ◌, ◌≤ℤ◌, Bool, if◌then◌else◌, All, Some, slice_get}
use Rattle.std.specs.List.{list_any}
use Rattle.sm_kinds.specs.declared.var.Var.{Var}
use Rattle.sm_kinds.specs.declared.packing.Item.{Item}
use Rattle.sm_kinds.specs.declared.packing.Packing.{Packing}
use Rattle.sm_kinds.specs.Limits.{IsAmount, IsSmall, most_items, most_groups, most_capacity}
use Rattle.sm_kinds.specs.Points.{Point, has_value}
use Rattle.sm_kinds.specs.Choices.{AddUpTo}
use Rattle.sm_kinds.specs.Vars.{IsSet, IsDiscrete}

-- ---- its limits, and how its parts fit

-- an item has a cost for each group
pub record IsItem (vars : List Var) (groups : ℕ) (i : Item) : Type 0 where
  pub group : IsSet vars i.group
  pub size : IsAmount i.size
  pub costs : length i.costs ≡ groups
  pub small : All IsSmall i.costs

abbrev pub IsCapacity : ℤ → Type 0
IsCapacity n = (pos 0 ≤ℤ n) × (n ≤ℤ pos most_capacity)

pub record IsPacking (vars : List Var) (p : Packing) : Type 0 where
  pub value : IsDiscrete vars p.z
  pub groups : length p.capacities ≤ most_groups
  pub capacities : All IsCapacity p.capacities
  pub opened : length p.opening ≡ length p.capacities
  pub opening : All IsAmount p.opening
  pub few : length p.items ≤ most_items
  pub each : All (IsItem vars (length p.capacities)) p.items

-- ---- its size

abbrev pub packing_size : Packing → ℕ
packing_size p = 0

-- ---- its variables

-- each of its variables has this property
abbrev pub EachPackingVar : (ℕ → Type 0) → Packing → Type 0
EachPackingVar P p = P p.z × All (λ (i : Item). P i.group) p.items

-- ---- when it holds

-- the item is in the group
abbrev pub is_in : Point → ℕ → Item → Bool
is_in a g i = has_value a i.group (pos g)

-- the sizes of the items in the group
abbrev pub load_of : Point → ℕ → List Item → ℤ
load_of a g [] = pos 0
load_of a g (i ∷ is) = (if is_in a g i then i.size else pos 0) +ℤ load_of a g is

-- the opening costs of the groups, from this one on, that hold an item
abbrev pub opening_costs : Point → List Item → ℕ → List ℤ → ℤ
opening_costs a items g [] = pos 0
opening_costs a items g (c ∷ cs) = (if list_any (is_in a g) items then c else pos 0) +ℤ opening_costs a items (g + 1) cs

-- an item as a variable with its table of costs
abbrev pub item_pick : Item → ℕ × List ℤ
item_pick i = (i.group, i.costs)

-- Each item is in one of the groups, no group holds more than its capacity, and z is what the items cost in their groups
-- and what it costs to open the groups that hold an item.
pub record SatPacking (p : Packing) (a : Point) : Type 0 where
  pub within : (g : ℕ) (capacity : ℤ) → slice_get p.capacities g ≡ Some capacity → load_of a g p.items ≤ℤ capacity
  pub costs : AddUpTo a (map item_pick p.items) (a.numerator p.z -ℤ (opening_costs a p.items 0 p.opening *ℤ a.denominator))
