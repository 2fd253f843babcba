-- What the code keeps of a tree is that tree: each change of what is kept is the change of the nodes that it stands for.
use Rattle.std.proofs.Common.{◌≡◌, ◌≢◌, ℕ, zero, suc, ◌<◌, Bool, true, false, cond, not, ◌&&◌, List, [], ◌∷◌, ◌++◌, length, get_or, refl, sym, ap, ◌∙◌, arith}
use Rattle.std.specs.Prelude.{◌==◌, All}
use Rattle.std.proofs.lemmas.Bool.Decides.{nat_tests}
use Rattle.std.proofs.lemmas.List.{length-set}
use Rattle.std.proofs.lemmas.List.Elements.{All-nil, All-cons, All-head, All-tail}
use Rattle.sm_kinds.specs.declared.literal.Literal.{Literal}
use Rattle.sm_store.specs.Stores.{Extent, extent_at, narrowed, narrow, narrow_all}
use Rattle.sm_rules.specs.declared.node.Status.{Status}
use Rattle.sm_rules.specs.declared.node.Status.TheVariants.{Open}
use Rattle.sm_rules.specs.Nodes.{NodeView, KeptNode, no_node, is_split}
use Rattle.sm_rules.specs.Trees.{node_at, set_node, without_node, has_no_child, is_done, pruned}
use Rattle.sm_rules.specs.Places.{AreRising, IsPlace, at_place}
use Rattle.sm_rules.specs.KeptNodes.{node_of, with_store, nodes_of, IsNotUnder}
use Rattle.sm_rules.proofs.Levels.{both_true}
use Rattle.sm_rules.proofs.NodeLists.{pairs_head, pairs_tail}
use Rattle.sm_rules.proofs.Places.{same_number, other_number, rising_head, rising_tail}
use Rattle.sm_rules.proofs.Pruning.{AllNeeded}

test_other : (a b : ℕ) → not (a == b) ≡ true → a ≢ b
test_other a b t e = grind (arith, nat_tests)

-- ---- what doesn't hang on stores

pub no_child_of : (s : ℕ → List Extent) (k : ℕ) (ns : List KeptNode) → has_no_child k (nodes_of s ns) ≡ has_no_child k ns
no_child_of s k [] = refl
no_child_of s k (n ∷ ns) = ap (λ (b : Bool). not (n.parent == k) && b) (no_child_of (with_store s (node_of s n)) k ns)

done_of : (s t : ℕ → List Extent) (n : KeptNode) (ns : List KeptNode) → is_done (node_of s n) (nodes_of t ns) ≡ is_done n ns
done_of s t n ns = ap (λ (b : Bool). is_split n.status && b) (no_child_of t n.number ns)

pub length_of : (s : ℕ → List Extent) (ns : List KeptNode) → length (nodes_of s ns) ≡ length ns
length_of s [] = refl
length_of s (n ∷ ns) = ap (λ (k : ℕ). suc k) (length_of (with_store s (node_of s n)) ns)

-- whatever doesn't hang on stores holds of all nodes where it holds of all that is kept
pub all_of : (P : KeptNode → Type 0) (Q : NodeView → Type 0) (s : ℕ → List Extent) (ns : List KeptNode) → ((t : ℕ → List Extent) (n : KeptNode) → P n → Q (node_of t n)) → All P ns → All Q (nodes_of s ns)
all_of P Q s [] f h = All-nil Q
all_of P Q s (n ∷ ns) f h = All-cons Q (node_of s n) _ (f s n (All-head P n ns h)) (all_of P Q (with_store s (node_of s n)) ns f (All-tail P n ns h))

-- ---- stores of nodes that aren't above

-- two families of stores that agree but at k give the same nodes, where none is a child of k
nodes_agree : (s t : ℕ → List Extent) (k : ℕ) (ns : List KeptNode) → ((j : ℕ) → j ≢ k → s j ≡ t j) → has_no_child k ns ≡ true → nodes_of s ns ≡ nodes_of t ns
nodes_agree s t k [] same none = refl
nodes_agree s t k (n ∷ ns) same none =
    let both = both_true (not (n.parent == k)) (has_no_child k ns) none in
    let parent : s n.parent ≡ t n.parent = same n.parent (test_other n.parent k both.0) in
    let here : node_of s n ≡ node_of t n = ap (λ (x : List Extent). record { number = n.number; parent = n.parent; store = narrow_all x n.store; floors = n.floors; status = n.status }) parent in
    let later : (j : ℕ) → j ≢ k → with_store s (node_of s n) j ≡ with_store t (node_of t n) j = λ j other. by_test (n.number == j) (narrow_all (s n.parent) n.store) (narrow_all (t n.parent) n.store) (s j) (t j) (ap (λ (x : List Extent). narrow_all x n.store) parent) (same j other) in
    both_cons (node_of s n) (node_of t n) _ _ here (nodes_agree (with_store s (node_of s n)) (with_store t (node_of t n)) k ns later both.1)
  where
    by_test : (b : Bool) (x y v w : List Extent) → x ≡ y → v ≡ w → cond b x v ≡ cond b y w
    by_test true x y v w e f = e
    by_test false x y v w e f = f

    both_cons : (x y : NodeView) (xs ys : List NodeView) → x ≡ y → xs ≡ ys → x ∷ xs ≡ y ∷ ys
    both_cons x y xs ys e f = rw (e, f) refl

-- the store of a node that has no child isn't asked for
pub unseen : (s : ℕ → List Extent) (n : KeptNode) (ns : List KeptNode) → has_no_child n.number ns ≡ true → nodes_of (with_store s (node_of s n)) ns ≡ nodes_of s ns
unseen s n ns none = nodes_agree (with_store s (node_of s n)) s n.number ns (λ j other. by_test j (other_number n.number j (λ e. other (sym e)))) none
  where
    by_test : (j : ℕ) → (n.number == j) ≡ false → with_store s (node_of s n) j ≡ s j
    by_test j e = rw e refl

-- ---- nodes are dropped

pub pruned_of : (s : ℕ → List Extent) (ns : List KeptNode) → nodes_of s (pruned ns) ≡ pruned (nodes_of s ns)
pruned_of s [] = refl
pruned_of s (n ∷ ns) =
    let t = with_store s (node_of s n) in
    let rest : nodes_of t (pruned ns) ≡ pruned (nodes_of t ns) = pruned_of t ns in
    let same : is_done (node_of s n) (pruned (nodes_of t ns)) ≡ is_done n (pruned ns) = rw (← rest) (done_of s t n (pruned ns)) in
    rw (same, ← rest) (by_test (is_done n (pruned ns)) refl)
  where
    by_test : (b : Bool) → is_done n (pruned ns) ≡ b → nodes_of s (cond b (pruned ns) (n ∷ pruned ns)) ≡ cond b (nodes_of (with_store s (node_of s n)) (pruned ns)) (node_of s n ∷ nodes_of (with_store s (node_of s n)) (pruned ns))
    by_test true e = sym (unseen s n (pruned ns) (both_true (is_split n.status) (has_no_child n.number (pruned ns)) e).1)
    by_test false e = refl

-- no node after the one of this number is its child
abbrev pub is_childless : List KeptNode → ℕ → Bool
is_childless [] k = true
is_childless (n ∷ ns) k = cond (n.number == k) (has_no_child k ns) (is_childless ns k)

pub without_of : (s : ℕ → List Extent) (ns : List KeptNode) (k : ℕ) → is_childless ns k ≡ true → nodes_of s (without_node ns k) ≡ without_node (nodes_of s ns) k
without_of s [] k none = refl
without_of s (n ∷ ns) k none = by_test (n.number == k) refl none (without_of (with_store s (node_of s n)) ns k)
  where
    by_test : (b : Bool) → (n.number == k) ≡ b → cond b (has_no_child k ns) (is_childless ns k) ≡ true → (is_childless ns k ≡ true → nodes_of (with_store s (node_of s n)) (without_node ns k) ≡ without_node (nodes_of (with_store s (node_of s n)) ns) k) → nodes_of s (cond b ns (n ∷ without_node ns k)) ≡ cond b (nodes_of (with_store s (node_of s n)) ns) (node_of s n ∷ without_node (nodes_of (with_store s (node_of s n)) ns) k)
    by_test true e none rest =
        let same : n.number ≡ k = grind (arith, nat_tests) in
        sym (unseen s n ns (rw same none))
    by_test false e none rest = ap (λ (vs : List NodeView). node_of s n ∷ vs) (rest none)

no_child_here : (n : KeptNode) (ns : List KeptNode) → n.status ≡ Open → All (λ (c : KeptNode). IsNotUnder n c) ns → has_no_child n.number ns ≡ true
no_child_here n [] is_open h = refl
no_child_here n (c ∷ ns) is_open h =
    let here : c.parent ≢ n.number = λ e. All-head (λ (c : KeptNode). IsNotUnder n c) c ns h e is_open in
    rw (other_number c.parent n.number here) (no_child_here n ns is_open (All-tail (λ (c : KeptNode). IsNotUnder n c) c ns h))

-- an open node has no child
pub open_childless : (ns : List KeptNode) (k : ℕ) → (node_at ns k).status ≡ Open → ((i j : ℕ) (d : KeptNode) → i < j → j < length ns → IsNotUnder (get_or ns i d) (get_or ns j d)) → is_childless ns k ≡ true
open_childless [] k is_open h = refl
open_childless (n ∷ ns) k is_open h = by_test (n.number == k) refl is_open (λ there. open_childless ns k there (pairs_tail (λ (n c : KeptNode). IsNotUnder n c) n ns h))
  where
    by_test : (b : Bool) → (n.number == k) ≡ b → (cond b n (node_at ns k)).status ≡ Open → ((node_at ns k).status ≡ Open → is_childless ns k ≡ true) → cond b (has_no_child k ns) (is_childless ns k) ≡ true
    by_test true e is_open rest =
        let same : n.number ≡ k = grind (arith, nat_tests) in
        rw (← same) (no_child_here n ns is_open (pairs_head (λ (n c : KeptNode). IsNotUnder n c) n ns h))
    by_test false e is_open rest = rest is_open

pub needed_of : (s : ℕ → List Extent) (ns : List KeptNode) → AllNeeded (nodes_of s ns) → AllNeeded ns
needed_of s [] h = tt
needed_of s (n ∷ ns) h =
    let t = with_store s (node_of s n) in
    (sym (done_of s t n ns) ∙ h.0, needed_of t ns h.1)

-- ---- one node is marked, and one is pushed

-- a node's new status is all that is new
pub set_of : (s : ℕ → List Extent) (ns : List KeptNode) (k : ℕ) (x : Status) → nodes_of s (set_node ns k (record (node_at ns k) { status = x })) ≡ set_node (nodes_of s ns) k (record (node_at (nodes_of s ns) k) { status = x })
set_of s [] k x = refl
set_of s (n ∷ ns) k x = by_test (n.number == k) (set_of (with_store s (node_of s n)) ns k x)
  where
    by_test : (b : Bool) → nodes_of (with_store s (node_of s n)) (set_node ns k (record (node_at ns k) { status = x })) ≡ set_node (nodes_of (with_store s (node_of s n)) ns) k (record (node_at (nodes_of (with_store s (node_of s n)) ns) k) { status = x }) → nodes_of s (cond b (record (cond b n (node_at ns k)) { status = x } ∷ ns) (n ∷ set_node ns k (record (cond b n (node_at ns k)) { status = x }))) ≡ cond b (record (cond b (node_of s n) (node_at (nodes_of (with_store s (node_of s n)) ns) k)) { status = x } ∷ nodes_of (with_store s (node_of s n)) ns) (node_of s n ∷ set_node (nodes_of (with_store s (node_of s n)) ns) k (record (cond b (node_of s n) (node_at (nodes_of (with_store s (node_of s n)) ns) k)) { status = x }))
    by_test true rest = refl
    by_test false rest = ap (λ (vs : List NodeView). node_of s n ∷ vs) rest

-- the stores by number, once all these nodes are known
abbrev pub stores_of : (ℕ → List Extent) → List KeptNode → ℕ → List Extent
stores_of s [] = s
stores_of s (n ∷ ns) = stores_of (with_store s (node_of s n)) ns

-- a new status changes no store
pub stores_set : (s : ℕ → List Extent) (ns : List KeptNode) (k : ℕ) (x : Status) → stores_of s (set_node ns k (record (node_at ns k) { status = x })) ≡ stores_of s ns
stores_set s [] k x = refl
stores_set s (n ∷ ns) k x = by_test (n.number == k) (stores_set (with_store s (node_of s n)) ns k x)
  where
    by_test : (b : Bool) → stores_of (with_store s (node_of s n)) (set_node ns k (record (node_at ns k) { status = x })) ≡ stores_of (with_store s (node_of s n)) ns → stores_of s (cond b (record (cond b n (node_at ns k)) { status = x } ∷ ns) (n ∷ set_node ns k (record (cond b n (node_at ns k)) { status = x }))) ≡ stores_of (with_store s (node_of s n)) ns
    by_test true rest = refl
    by_test false rest = rest

pub push_of : (s : ℕ → List Extent) (ns : List KeptNode) (c : KeptNode) → nodes_of s (ns ++ c ∷ []) ≡ nodes_of s ns ++ node_of (stores_of s ns) c ∷ []
push_of s [] c = refl
push_of s (n ∷ ns) c = ap (λ (vs : List NodeView). node_of s n ∷ vs) (push_of (with_store s (node_of s n)) ns c)

-- a number that no node has keeps its store
pub stores_other : (s : ℕ → List Extent) (ns : List KeptNode) (k : ℕ) → All (λ (n : KeptNode). n.number ≢ k) ns → stores_of s ns k ≡ s k
stores_other s [] k h = refl
stores_other s (n ∷ ns) k h =
    let here : with_store s (node_of s n) k ≡ s k = rw (other_number n.number k (All-head (λ (n : KeptNode). n.number ≢ k) n ns h)) refl in
    stores_other (with_store s (node_of s n)) ns k (All-tail (λ (n : KeptNode). n.number ≢ k) n ns h) ∙ here

-- the store of a number is that of its node
pub stores_found : (s : ℕ → List Extent) (ns : List KeptNode) (i k : ℕ) → AreRising ns → IsPlace ns i k → stores_of s ns k ≡ (at_place (nodes_of s ns) i).store
stores_found s [] i k rising p = absurd (let w = p.within in omega arith)
stores_found s (n ∷ ns) zero k rising p =
    let here : n.number ≡ k = p.here in
    let later : All (λ (c : KeptNode). c.number ≢ k) ns = λ j d lt e. let above = rising_head n ns rising j d lt in absurd (omega arith) in
    let at : with_store s (node_of s n) k ≡ (node_of s n).store = rw (same_number n.number k here) refl in
    stores_other (with_store s (node_of s n)) ns k later ∙ at
stores_found s (n ∷ ns) (suc i) k rising p =
    stores_found (with_store s (node_of s n)) ns i k (rising_tail n ns rising) (record { within = let w = p.within in omega arith; here = p.here })

-- ---- a node by its number, and by its place

pub status_at : (s : ℕ → List Extent) (ns : List KeptNode) (k : ℕ) → (node_at (nodes_of s ns) k).status ≡ (node_at ns k).status
status_at s [] k = refl
status_at s (n ∷ ns) k = by_test (n.number == k) (status_at (with_store s (node_of s n)) ns k)
  where
    by_test : (b : Bool) → (node_at (nodes_of (with_store s (node_of s n)) ns) k).status ≡ (node_at ns k).status → (cond b (node_of s n) (node_at (nodes_of (with_store s (node_of s n)) ns) k)).status ≡ (cond b n (node_at ns k)).status
    by_test true rest = refl
    by_test false rest = rest

pub floors_at : (s : ℕ → List Extent) (ns : List KeptNode) (k : ℕ) → (node_at (nodes_of s ns) k).floors ≡ (node_at ns k).floors
floors_at s [] k = refl
floors_at s (n ∷ ns) k = by_test (n.number == k) (floors_at (with_store s (node_of s n)) ns k)
  where
    by_test : (b : Bool) → (node_at (nodes_of (with_store s (node_of s n)) ns) k).floors ≡ (node_at ns k).floors → (cond b (node_of s n) (node_at (nodes_of (with_store s (node_of s n)) ns) k)).floors ≡ (cond b n (node_at ns k)).floors
    by_test true rest = refl
    by_test false rest = rest

pub place_of_node : (s : ℕ → List Extent) (ns : List KeptNode) (i : ℕ) → i < length ns → (t : ℕ → List Extent) × (at_place (nodes_of s ns) i ≡ node_of t (at_place ns i))
place_of_node s [] i lt = absurd (omega arith)
place_of_node s (n ∷ ns) zero lt = (s, refl)
place_of_node s (n ∷ ns) (suc i) lt = place_of_node (with_store s (node_of s n)) ns i (omega arith)

pub is_place_of : (s : ℕ → List Extent) (ns : List KeptNode) (i k : ℕ) → IsPlace ns i k → IsPlace (nodes_of s ns) i k
is_place_of s ns i k p =
    let at = place_of_node s ns i p.within in
    record { within = rw (length_of s ns) p.within; here = ap (λ (n : NodeView). n.number) at.1 ∙ p.here }

pub rising_of : (s : ℕ → List Extent) (ns : List KeptNode) → AreRising ns → AreRising (nodes_of s ns)
rising_of s ns rising i j d lt within =
    let within' : j < length ns = rw (length_of s ns) at within in
    let a = place_of_node s ns i (omega arith) in
    let b = place_of_node s ns j within' in
    let up : (at_place ns i).number < (at_place ns j).number = rising i j no_node lt within' in
    let x : get_or (nodes_of s ns) i d ≡ at_place (nodes_of s ns) i = get_same (nodes_of s ns) i d (omega arith) in
    let y : get_or (nodes_of s ns) j d ≡ at_place (nodes_of s ns) j = get_same (nodes_of s ns) j d within in
    rw (x, y, a.1, b.1) up
  where
    get_same : (vs : List NodeView) (i : ℕ) (d : NodeView) → i < length vs → get_or vs i d ≡ at_place vs i
    get_same [] i d lt = absurd (omega arith)
    get_same (v ∷ vs) zero d lt = refl
    get_same (v ∷ vs) (suc i) d lt = get_same vs i d (omega arith)

-- ---- widths

pub width_narrow : (store : List Extent) (l : Literal) → length (narrow store l) ≡ length store
width_narrow store l = length-set store l.var (narrowed l (extent_at store l.var))

pub width_all : (store : List Extent) (ls : List Literal) → length (narrow_all store ls) ≡ length store
width_all store [] = refl
width_all store (l ∷ ls) = width_all (narrow store l) ls ∙ width_narrow store l

pub widths_of : (w : ℕ) (s : ℕ → List Extent) (ns : List KeptNode) → ((k : ℕ) → length (s k) ≡ w) → All (λ (n : NodeView). length n.store ≡ w) (nodes_of s ns)
widths_of w s [] h = All-nil _
widths_of w s (n ∷ ns) h =
    let here : length (narrow_all (s n.parent) n.store) ≡ w = width_all (s n.parent) n.store ∙ h n.parent in
    All-cons (λ (n : NodeView). length n.store ≡ w) (node_of s n) _ here (widths_of w (with_store s (node_of s n)) ns (λ k. by_test (n.number == k) k here))
  where
    by_test : (b : Bool) (k : ℕ) → length (narrow_all (s n.parent) n.store) ≡ w → length (cond b (narrow_all (s n.parent) n.store) (s k)) ≡ w
    by_test true k here = here
    by_test false k here = h k
