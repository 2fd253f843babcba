-- Each line that splits or closes a node takes weight off.
use Rattle.std.proofs.Common.{◌≡◌, ℕ, suc, ◌+◌, ◌*◌, ◌^◌, ◌<◌, ◌≤◌, Bool, true, false, cond, List, [], ◌∷◌, ◌++◌, refl, arith, lit<}
use Rattle.std.specs.Prelude.{◌==◌}
use Rattle.std.proofs.Math.Nat.{pow-le-pow_right, pow-succ', one-le-pow}
use Rattle.std.proofs.lemmas.List.Sums.{sum_by-set}
use Rattle.sm_kinds.specs.declared.literal.Literal.{Literal}
use Rattle.sm_kinds.specs.Literals.{complement}
use Rattle.sm_flat.specs.Models.{FlatModel}
use Rattle.sm_store.specs.Stores.{Extent, no_extent, extent_at, narrowed, narrow, Narrows, size_in}
use Rattle.sm_step.specs.declared.line.Line.TheVariants as line
use Rattle.sm_rules.specs.declared.node.Status.{Status}
use Rattle.sm_rules.specs.declared.node.Status.TheVariants.{Open, Half, Split}
use Rattle.sm_rules.specs.Nodes.{NodeView, TakesChild, LawfulChild, with_child}
use Rattle.sm_rules.specs.Trees.{Tree, node_at, set_node, without_node, is_done, pruned, focus_of, close_focus, child_of}
use Rattle.sm_rules.specs.States.{State}
use Rattle.sm_rules.specs.Laws.{Allowed}
use Rattle.sm_rules.specs.Transitions.{after}
use Rattle.sm_rules.specs.Sound.{IsNodeOf}
use Rattle.sm_rules.proofs.Keeping.{all_at}
use Rattle.sm_rules.proofs.LeastCosts.{AreOrdered}
use Rattle.sm_search.specs.Fits.{IsFit}
use Rattle.sm_search.specs.Weights.{size, part_weight, nodes_weight, weight}
use Rattle.sm_search.proofs.Sizes.{kept_smaller}

pow_some : (i : ℕ) → 0 < 4 ^ i
pow_some i = let h = one-le-pow i 4 (lit< tt) in omega arith

pow_less : (i j : ℕ) → i < j → 4 * 4 ^ i ≤ 4 ^ j
pow_less i j lt =
    let e : 4 ^ suc i ≡ 4 * 4 ^ i = pow-succ' 4 i in
    let le : 4 ^ suc i ≤ 4 ^ j = pow-le-pow_right {n = 4} (lit< tt) {i = suc i} {j = j} (omega arith) in
    omega arith

-- a literal that makes an ordered extent another one, and leaves a value, leaves fewer
size_less : (store : List Extent) (l : Literal) → AreOrdered store → Narrows store l → size (narrow store l) < size store
size_less store l ordered narrows =
    let x = extent_at store l.var in
    let e = sum_by-set (λ (e : Extent). size_in e.kind e.values) store l.var (narrowed l x) no_extent narrows.known in
    let less = kept_smaller x.kind l x.values (ordered l.var narrows.known) narrows.leaves narrows.changes in
    omega (arith, e, less)

set_weight : (ns : List NodeView) (k : ℕ) (new : NodeView) → TakesChild (node_at ns k).status → nodes_weight (set_node ns k new) + part_weight (node_at ns k).store (node_at ns k).status ≡ nodes_weight ns + part_weight new.store new.status
set_weight [] k new takes = absurd takes
set_weight (n ∷ ns) k new takes = by_test (n.number == k) (λ takes. set_weight ns k new takes) takes
  where
    by_test : (b : Bool) → (TakesChild (node_at ns k).status → nodes_weight (set_node ns k new) + part_weight (node_at ns k).store (node_at ns k).status ≡ nodes_weight ns + part_weight new.store new.status) → TakesChild (cond b n (node_at ns k)).status → nodes_weight (cond b (new ∷ ns) (n ∷ set_node ns k new)) + part_weight (cond b n (node_at ns k)).store (cond b n (node_at ns k)).status ≡ nodes_weight (n ∷ ns) + part_weight new.store new.status
    by_test true rest takes = omega arith
    by_test false rest takes = let e = rest takes in omega arith

without_weight : (ns : List NodeView) (k : ℕ) → nodes_weight (without_node ns k) + part_weight (node_at ns k).store (node_at ns k).status ≡ nodes_weight ns
without_weight [] k = refl
without_weight (n ∷ ns) k = by_test (n.number == k) (without_weight ns k)
  where
    by_test : (b : Bool) → nodes_weight (without_node ns k) + part_weight (node_at ns k).store (node_at ns k).status ≡ nodes_weight ns → nodes_weight (cond b ns (n ∷ without_node ns k)) + part_weight (cond b n (node_at ns k)).store (cond b n (node_at ns k)).status ≡ nodes_weight (n ∷ ns)
    by_test true rest = omega arith
    by_test false rest = omega arith

pruned_weight : (ns : List NodeView) → nodes_weight (pruned ns) ≤ nodes_weight ns
pruned_weight [] = omega arith
pruned_weight (n ∷ ns) = by_test (is_done n (pruned ns)) (pruned_weight ns)
  where
    by_test : (b : Bool) → nodes_weight (pruned ns) ≤ nodes_weight ns → nodes_weight (cond b (pruned ns) (n ∷ pruned ns)) ≤ nodes_weight (n ∷ ns)
    by_test true rest = omega arith
    by_test false rest = omega arith

push_weight : (ns : List NodeView) (n : NodeView) → nodes_weight (ns ++ n ∷ []) ≡ nodes_weight ns + part_weight n.store n.status
push_weight [] n = omega arith
push_weight (x ∷ xs) n = let e = push_weight xs n in omega arith

-- a node is split
split_weight : (store : List Extent) (status : Status) (l : Literal) → AreOrdered store → TakesChild status → LawfulChild store status l → part_weight store (with_child status l) + 4 ^ size (narrow store l) < part_weight store status
split_weight store Open l ordered takes law =
    let a = pow_less (size (narrow store l)) (size store) (size_less store l ordered law.0) in
    let b = pow_less (size (narrow store (complement l))) (size store) (size_less store (complement l) ordered law.1) in
    let p = pow_some (size store) in
    omega arith
split_weight store (Half first) l ordered takes law =
    let p = pow_some (size (narrow store (complement first))) in
    rw law (omega arith)
split_weight store (Split first) l ordered takes law = absurd takes

pub node_falls : (m : FlatModel) (s : State) (id parent : ℕ) (l : Literal) → IsFit m s → Allowed m s (line.Node id parent l) → weight (after m s (line.Node id parent l)) < weight s
node_falls m s id parent l fit ok =
    let old = node_at s.main.nodes parent in
    let node = all_at (λ (n : NodeView). IsNodeOf m n) s.main.nodes parent fit.of.nodes ok.due.order.takes in
    let new : NodeView = record old { status = with_child old.status l } in
    let a = set_weight s.main.nodes parent new ok.due.order.takes in
    let b = push_weight (set_node s.main.nodes parent new) (child_of m s.main.count old l) in
    let c = split_weight old.store old.status l (λ i lt. (node.store.parts i lt).ordered) ok.due.order.takes ok.law in
    omega arith

open_weight : (store : List Extent) (status : Status) → status ≡ Open → part_weight store status ≡ 4 ^ size store
open_weight store status e = rw e refl

pub close_falls : (t : Tree) → (focus_of t).status ≡ Open → nodes_weight (close_focus t).nodes < nodes_weight t.nodes
close_falls t is_open =
    let a = without_weight t.nodes t.focus in
    let b = pruned_weight (without_node t.nodes t.focus) in
    let c = open_weight (focus_of t).store (focus_of t).status is_open in
    let p = pow_some (size (focus_of t).store) in
    omega arith
