-- One part more of a sum over a list.
use Rattle.std.proofs.Common.{◌≡◌, ℕ, ◌+◌, ◌<◌, List, length, get_or, drop}
use Rattle.std.specs.Prelude.{ℤ, pos, ◌+ℤ◌, ◌*ℤ◌, if◌then◌else◌}
use Rattle.std.specs.List.{list_any}
use Rattle.std.proofs.lemmas.List.{at_drop_more}
use Rattle.sm_kinds.specs.Cumulative.{demand_at, load_at}
use Rattle.sm_kinds.specs.Points.{Point}
use Rattle.sm_kinds.specs.Sums.{sum_at}
use Rattle.sm_kinds.specs.declared.tasks.Task.{Task}
use Rattle.sm_kinds.specs.Packing.{is_in, load_of, opening_costs}
use Rattle.sm_kinds.specs.declared.packing.Item.{Item}

pub sum_at_more : (at : ℕ → ℤ) (ts : List (ℕ × ℤ)) (i : ℕ) (d : ℕ × ℤ) → i < length ts → sum_at (drop i ts) at ≡ ((get_or ts i d).1 *ℤ at (get_or ts i d).0) +ℤ sum_at (drop (i + 1) ts) at
sum_at_more at ts i d lt = at_drop_more (λ xs. sum_at xs at) ts i d lt

-- one task more of a load
pub load_at_more : (a : Point) (time : ℤ) (ts : List Task) (i : ℕ) (d : Task) → i < length ts → load_at a time (drop i ts) ≡ demand_at a time (get_or ts i d) +ℤ load_at a time (drop (i + 1) ts)
load_at_more a time ts i d lt = at_drop_more (λ xs. load_at a time xs) ts i d lt

pub load_of_more : (a : Point) (g : ℕ) (items : List Item) (i : ℕ) (d : Item) → i < length items → load_of a g (drop i items) ≡ (if is_in a g (get_or items i d) then (get_or items i d).size else pos 0) +ℤ load_of a g (drop (i + 1) items)
load_of_more a g items i d lt = at_drop_more (load_of a g) items i d lt

-- the group that a list of opening costs begins with rises as the list is shortened
pub opening_costs_more : (a : Point) (items : List Item) (costs : List ℤ) (g : ℕ) → g < length costs → opening_costs a items g (drop g costs) ≡ (if list_any (is_in a g) items then get_or costs g (pos 0) else pos 0) +ℤ opening_costs a items (g + 1) (drop (g + 1) costs)
opening_costs_more a items costs g lt = at_drop_more (opening_costs a items g) costs g (pos 0) lt
