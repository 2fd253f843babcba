-- The store of a node is the declared one narrowed along the path from it to the root.
use Rattle.std.proofs.Common.{◌≡◌, ◌≢◌, ℕ, zero, suc, ◌<◌, Option, Some, None, List, [], ◌∷◌, ◌++◌, length, take, get_or, refl, sym, ap, ◌∙◌, arith}
use Rattle.std.specs.Prelude.{All, IfSome, IfNone}
use Rattle.std.proofs.lemmas.List.Elements.{All-push}
use lib.ListN.{length-take}
use lib.Seq.{get_or-take, take-suc}
use Rattle.sm_store.specs.Stores.{Extent, narrow_all}
use Rattle.sm_rules.specs.Nodes.{NodeView, KeptNode}
use Rattle.sm_rules.specs.Places.{AreRising, IsPlace, at_place}
use Rattle.sm_rules.specs.KeptNodes.{node_of, with_store, nodes_of, nodes_over, narrow_along}
use Rattle.sm_rules.proofs.KeptNodes.{stores_of, stores_other, stores_found}

-- a node's store is that of its parent's number among the nodes before it, narrowed by the node's literals
from_before : (s : ℕ → List Extent) (ns : List KeptNode) (i : ℕ) → i < length ns → (at_place (nodes_of s ns) i).store ≡ narrow_all (stores_of s (take i ns) (at_place ns i).parent) (at_place ns i).store
from_before s [] i lt = absurd (omega arith)
from_before s (n ∷ ns) zero lt = refl
from_before s (n ∷ ns) (suc i) lt = from_before (with_store s (node_of s n)) ns i (omega arith)

-- the nodes before a place are as they are in the whole list
in_whole : (s : ℕ → List Extent) (ns : List KeptNode) (i j : ℕ) → j < i → j < length ns → at_place (nodes_of s (take i ns)) j ≡ at_place (nodes_of s ns) j
in_whole s [] i j below lt = absurd (omega arith)
in_whole s (n ∷ ns) zero j below lt = absurd (omega arith)
in_whole s (n ∷ ns) (suc i) zero below lt = refl
in_whole s (n ∷ ns) (suc i) (suc j) below lt = in_whole (with_store s (node_of s n)) ns i j (omega arith) (omega arith)

pub rising_take : (ns : List KeptNode) (i : ℕ) → AreRising ns → AreRising (take i ns)
rising_take ns i rising j k d lt within =
    let len = length-take i ns in
    rw (get_or-take i ns j d (omega arith), get_or-take i ns k d (omega arith)) (rising j k d lt (omega arith))

-- the store from which a path goes on upwards: that of the node at a place, or the declared one
abbrev pub store_above : List Extent → List KeptNode → Option ℕ → List Extent
store_above declared ns None = declared
store_above declared ns (Some i) = (at_place (nodes_over declared ns) i).store

-- one place more on the path
climb : (declared store : List Extent) (ns : List KeptNode) (path : List ℕ) (i : ℕ) → narrow_along store ns (path ++ i ∷ []) ≡ narrow_along (narrow_all store (at_place ns i).store) ns path
climb declared store ns [] i = refl
climb declared store ns (p ∷ path) i = ap (λ (x : List Extent). narrow_all x (at_place ns p).store) (climb declared store ns path i)

-- from where the path stands it leads to the store of a node
pub record Climbs (ns : List KeptNode) (path : List ℕ) (next : Option ℕ) (place : ℕ) : Type 0 where
  pub leads : (declared : List Extent) → narrow_along (store_above declared ns next) ns path ≡ (at_place (nodes_over declared ns) place).store

-- how many places are left above
abbrev pub left_above : Option ℕ → ℕ
left_above None = 0
left_above (Some i) = suc i

pub climbs_first : (ns : List KeptNode) (place : ℕ) → Climbs ns [] (Some place) place
climbs_first ns place = record { leads = λ declared. refl }

pub climbs_done : (ns : List KeptNode) (path : List ℕ) (place : ℕ) → Climbs ns path None place → (declared : List Extent) → narrow_along declared ns path ≡ (at_place (nodes_over declared ns) place).store
climbs_done ns path place h declared = h.leads declared

-- the store of a node is that of the next place above, narrowed by its literals
above_is : (declared : List Extent) (ns : List KeptNode) (i : ℕ) (next : Option ℕ) → AreRising ns → i < length ns → IfSome next (λ j. IsPlace (take i ns) j (at_place ns i).parent) → IfNone next (All (λ (n : KeptNode). n.number ≢ (at_place ns i).parent) (take i ns)) → (at_place (nodes_over declared ns) i).store ≡ narrow_all (store_above declared ns next) (at_place ns i).store
above_is declared ns i None rising lt some none =
    let parent = (at_place ns i).parent in
    from_before (λ _. declared) ns i lt ∙ ap (λ (s : List Extent). narrow_all s (at_place ns i).store) (stores_other (λ _. declared) (take i ns) parent none)
above_is declared ns i (Some j) rising lt some none =
    let parent = (at_place ns i).parent in
    let len = length-take i ns in
    let within = some.within in
    let found = stores_found (λ _. declared) (take i ns) j parent (rising_take ns i rising) some in
    let same = ap (λ (n : NodeView). n.store) (in_whole (λ _. declared) ns i j (omega arith) (omega arith)) in
    from_before (λ _. declared) ns i lt ∙ ap (λ (s : List Extent). narrow_all s (at_place ns i).store) (found ∙ same)

-- one place more
pub climbs_next : (ns : List KeptNode) (path : List ℕ) (i place : ℕ) (next : Option ℕ) → AreRising ns → i < length ns → IfSome next (λ j. IsPlace (take i ns) j (at_place ns i).parent) → IfNone next (All (λ (n : KeptNode). n.number ≢ (at_place ns i).parent) (take i ns)) → Climbs ns path (Some i) place → Climbs ns (path ++ i ∷ []) next place
climbs_next ns path i place next rising lt some none h = record {
  leads = λ declared.
      climb declared (store_above declared ns next) ns path i ∙ ap (λ (s : List Extent). narrow_along s ns path) (sym (above_is declared ns i next rising lt some none)) ∙ h.leads declared;
}

-- one place less, from the end of the path
pub step_down : (store : List Extent) (ns : List KeptNode) (path : List ℕ) (rest : ℕ) → rest < length path → narrow_along store ns (take (suc rest) path) ≡ narrow_along (narrow_all store (at_place ns (get_or path rest 0)).store) ns (take rest path)
step_down store ns path rest lt = ap (λ (ps : List ℕ). narrow_along store ns ps) (take-suc path rest 0 lt) ∙ climb store store ns (take rest path) (get_or path rest 0)

-- one turn of the climb
pub climbs_step : (ns : List KeptNode) (path path' : List ℕ) (i place parent : ℕ) (old next : Option ℕ) (node : KeptNode) → AreRising ns → i < length ns → old ≡ Some i → at_place ns i ≡ node → parent ≡ node.parent → path' ≡ path ++ i ∷ [] → IfSome next (λ j. IsPlace (take i ns) j parent) → IfNone next (All (λ (n : KeptNode). n.number ≢ parent) (take i ns)) → All (λ p. p < length ns) path → Climbs ns path old place → All (λ p. p < length ns) path' × IfSome next (λ p. p < length ns) × Climbs ns path' next place
climbs_step ns path path' i place parent old next node rising lt is read from pushed some none all h =
    let parent' : parent ≡ (at_place ns i).parent = from ∙ sym (ap (λ (n : KeptNode). n.parent) read) in
    let some' : IfSome next (λ j. IsPlace (take i ns) j (at_place ns i).parent) = rw parent' at some in
    let none' : IfNone next (All (λ (n : KeptNode). n.number ≢ (at_place ns i).parent) (take i ns)) = rw parent' at none in
    let here : Climbs ns path (Some i) place = rw is at h in (
      rw pushed (All-push (λ p. p < length ns) path i all lt),
      below next some',
      rw pushed (climbs_next ns path i place next rising lt some' none' here),
    )
  where
    below : (next : Option ℕ) → IfSome next (λ j. IsPlace (take i ns) j (at_place ns i).parent) → IfSome next (λ p. p < length ns)
    below None some = tt
    below (Some j) some = let len = length-take i ns in let w = some.within in omega arith
