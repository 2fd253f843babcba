-- How much work a tree still holds at most.
use Rattle.std.specs.Prelude.{ℕ, ◌+◌, ◌*◌, ◌^◌, List, [], ◌∷◌}
use Rattle.std.specs.List.{sum_by}
use Rattle.sm_kinds.specs.Literals.{complement}
use Rattle.sm_store.specs.Stores.{Extent, narrow, size_in}
use Rattle.sm_rules.specs.declared.node.Status.{Status}
use Rattle.sm_rules.specs.declared.node.Status.TheVariants.{Open, Half, Split}
use Rattle.sm_rules.specs.Nodes.{NodeView}
use Rattle.sm_rules.specs.States.{State}

-- how many values are left, of all variables together
abbrev pub size : List Extent → ℕ
size store = sum_by (λ (e : Extent). size_in e.kind e.values) store

abbrev pub part_weight : List Extent → Status → ℕ
part_weight store Open = 4 ^ size store
part_weight store (Half l) = 2 * 4 ^ size (narrow store (complement l))
part_weight store (Split l) = 0

abbrev pub nodes_weight : List NodeView → ℕ
nodes_weight [] = 0
nodes_weight (n ∷ ns) = part_weight n.store n.status + nodes_weight ns

abbrev pub weight : State → ℕ
weight s = nodes_weight s.main.nodes
