-- A change of a tree keeps it sound, for any family of assignments.
use Rattle.std.proofs.Common.{◌≡◌, ℕ, ◌<◌, ◌⊎◌, Bool, true, false, cond, List, [], ◌∷◌, ◌++◌, length, refl, inl, inr}
use Rattle.std.specs.Prelude.{ℤ, pos, ◌*ℤ◌, ◌<ℤ◌, All, int_lt, ◌==◌}
use Rattle.sm_frac.specs.Rational.{ℚ, ◌≤ℚ◌}
use Rattle.sm_kinds.specs.declared.literal.Literal.{Literal}
use Rattle.sm_flat.specs.declared.goal.Goal.{Goal}
use Rattle.sm_flat.specs.Models.{FlatModel}
use Rattle.sm_kinds.specs.Points.{Point}
use Rattle.sm_store.specs.Stores.{Extent, In, narrow}
use Rattle.sm_store.proofs.Narrowing.{In-narrow, In-from_narrow}
use Rattle.sm_rules.specs.declared.node.Status.{Status}
use Rattle.sm_rules.specs.declared.node.Status.TheVariants.{Open, Half, Split}
use Rattle.sm_rules.specs.Floors.{AreFloors, number_of, numbers_of, greater, raised}
use Rattle.sm_rules.specs.Objectives.{costs, least_cost, least_costs}
use Rattle.sm_rules.specs.Nodes.{NodeView, CoversPart, Covers, TakesChild, LawfulChild, with_child, is_split}
use Rattle.sm_rules.specs.Trees.{Tree, raised_first, node_at, set_node, without_node, has_no_child, is_done, pruned, focus_of, close_focus, child_of, open_child, root_of, Covered, AllLow, TreeSound}
use Rattle.sm_rules.proofs.LeastCosts.{AreOrdered, least_costs-le}
use Rattle.sm_rules.proofs.Levels.{both_true}

-- ---- lists of nodes

pub Covered-set : (a : Point) (ns : List NodeView) (k : ℕ) (new : NodeView) → (Covers a (node_at ns k) → Covers a new) → Covered a ns → Covered a (set_node ns k new)
Covered-set a [] k new keeps h = absurd h
Covered-set a (n ∷ ns) k new keeps h = by_test (n.number == k) (λ keeps h. Covered-set a ns k new keeps h) keeps h
  where
    by_test : (b : Bool) → ((Covers a (node_at ns k) → Covers a new) → Covered a ns → Covered a (set_node ns k new)) → (Covers a (cond b n (node_at ns k)) → Covers a new) → Covers a n ⊎ Covered a ns → Covered a (cond b (new ∷ ns) (n ∷ set_node ns k new))
    by_test true rest keeps (inl here) = inl (keeps here)
    by_test true rest keeps (inr there) = inr there
    by_test false rest keeps (inl here) = inl here
    by_test false rest keeps (inr there) = inr (rest keeps there)

-- what node k covered is covered by the node in its place or by another
Covered-split : (a : Point) (ns : List NodeView) (k : ℕ) (new child : NodeView) → (Covers a (node_at ns k) → Covers a new ⊎ Covers a child) → Covered a ns → Covered a (set_node ns k new) ⊎ Covers a child
Covered-split a [] k new child either h = absurd h
Covered-split a (n ∷ ns) k new child either h = by_test (n.number == k) (λ either h. Covered-split a ns k new child either h) either h
  where
    later : Covered a (set_node ns k new) ⊎ Covers a child → Covered a (n ∷ set_node ns k new) ⊎ Covers a child
    later (inl x) = inl (inr x)
    later (inr x) = inr x

    here_or : Covers a new ⊎ Covers a child → Covered a (new ∷ ns) ⊎ Covers a child
    here_or (inl x) = inl (inl x)
    here_or (inr x) = inr x

    by_test : (b : Bool) → ((Covers a (node_at ns k) → Covers a new ⊎ Covers a child) → Covered a ns → Covered a (set_node ns k new) ⊎ Covers a child) → (Covers a (cond b n (node_at ns k)) → Covers a new ⊎ Covers a child) → Covers a n ⊎ Covered a ns → Covered a (cond b (new ∷ ns) (n ∷ set_node ns k new)) ⊎ Covers a child
    by_test true rest either (inl here) = here_or (either here)
    by_test true rest either (inr there) = inl (inr there)
    by_test false rest either (inl here) = inl (inl here)
    by_test false rest either (inr there) = later (rest either there)

Covered-append : (a : Point) (xs ys : List NodeView) → Covered a xs → Covered a (xs ++ ys)
Covered-append a [] ys h = absurd h
Covered-append a (x ∷ xs) ys (inl here) = inl here
Covered-append a (x ∷ xs) ys (inr there) = inr (Covered-append a xs ys there)

Covered_last : (a : Point) (xs : List NodeView) (n : NodeView) → Covers a n → Covered a (xs ++ n ∷ [])
Covered_last a [] n h = inl h
Covered_last a (x ∷ xs) n h = inr (Covered_last a xs n h)

Covered-without : (a : Point) (ns : List NodeView) (k : ℕ) → (Covers a (node_at ns k) → ⊥) → Covered a ns → Covered a (without_node ns k)
Covered-without a [] k none h = absurd h
Covered-without a (n ∷ ns) k none h = by_test (n.number == k) (λ none h. Covered-without a ns k none h) none h
  where
    by_test : (b : Bool) → ((Covers a (node_at ns k) → ⊥) → Covered a ns → Covered a (without_node ns k)) → (Covers a (cond b n (node_at ns k)) → ⊥) → Covers a n ⊎ Covered a ns → Covered a (cond b ns (n ∷ without_node ns k))
    by_test true rest none (inl here) = absurd (none here)
    by_test true rest none (inr there) = there
    by_test false rest none (inl here) = inl here
    by_test false rest none (inr there) = inr (rest none there)

split_covers_none : (a : Point) (store : List Extent) (status : Status) → is_split status ≡ true → CoversPart a store status → ⊥
split_covers_none a store Open e h = absurd (cc)
split_covers_none a store (Half l) e h = absurd (cc)
split_covers_none a store (Split l) e h = h

-- a node with two children covers nothing, so dropping it loses nothing
Covered-pruned : (a : Point) (ns : List NodeView) → Covered a ns → Covered a (pruned ns)
Covered-pruned a [] h = h
Covered-pruned a (n ∷ ns) h = by_test (is_done n (pruned ns)) refl (λ h. Covered-pruned a ns h) h
  where
    by_test : (b : Bool) → is_done n (pruned ns) ≡ b → (Covered a ns → Covered a (pruned ns)) → Covers a n ⊎ Covered a ns → Covered a (cond b (pruned ns) (n ∷ pruned ns))
    by_test true e rest (inl here) = absurd (split_covers_none a n.store n.status (both_true (is_split n.status) (has_no_child n.number (pruned ns)) e).0 here)
    by_test true e rest (inr there) = rest there
    by_test false e rest (inl here) = inl here
    by_test false e rest (inr there) = inr (rest there)

module _ (m : FlatModel) (a : Point) where
  -- the assignment costs at least the floors of a node in whose store it lies
  abbrev pub IsLow : NodeView → Type 0
  IsLow n = In a n.store → AreFloors (numbers_of n.floors) (costs m a)

  pub node_low : (ns : List NodeView) (k : ℕ) → AllLow m a ns → IsLow (node_at ns k)
  node_low [] k low = λ h. tt
  node_low (n ∷ ns) k low = by_test (n.number == k) (node_low ns k low.1)
    where
      by_test : (b : Bool) → IsLow (node_at ns k) → IsLow (cond b n (node_at ns k))
      by_test true rest = low.0
      by_test false rest = rest

  AllLow-set : (ns : List NodeView) (k : ℕ) (new : NodeView) → IsLow new → AllLow m a ns → AllLow m a (set_node ns k new)
  AllLow-set [] k new here low = tt
  AllLow-set (n ∷ ns) k new here low = by_test (n.number == k) (AllLow-set ns k new here low.1)
    where
      by_test : (b : Bool) → AllLow m a (set_node ns k new) → AllLow m a (cond b (new ∷ ns) (n ∷ set_node ns k new))
      by_test true rest = (here, low.1)
      by_test false rest = (low.0, rest)

  AllLow-push : (xs : List NodeView) (n : NodeView) → AllLow m a xs → IsLow n → AllLow m a (xs ++ n ∷ [])
  AllLow-push [] n low here = (here, tt)
  AllLow-push (x ∷ xs) n low here = (low.0, AllLow-push xs n low.1 here)

  AllLow-without : (ns : List NodeView) (k : ℕ) → AllLow m a ns → AllLow m a (without_node ns k)
  AllLow-without [] k low = tt
  AllLow-without (n ∷ ns) k low = by_test (n.number == k) (AllLow-without ns k low.1)
    where
      by_test : (b : Bool) → AllLow m a (without_node ns k) → AllLow m a (cond b ns (n ∷ without_node ns k))
      by_test true rest = low.1
      by_test false rest = (low.0, rest)

  AllLow-pruned : (ns : List NodeView) → AllLow m a ns → AllLow m a (pruned ns)
  AllLow-pruned [] low = tt
  AllLow-pruned (n ∷ ns) low = by_test (is_done n (pruned ns)) (AllLow-pruned ns low.1)
    where
      by_test : (b : Bool) → AllLow m a (pruned ns) → AllLow m a (cond b (pruned ns) (n ∷ pruned ns))
      by_test true rest = rest
      by_test false rest = (low.0, rest)

-- ---- the parts of a node

-- the two children cover what their parent did
split_covers : (a : Point) (store : List Extent) (status : Status) (l : Literal) → pos 0 <ℤ a.denominator → TakesChild status → LawfulChild store status l → CoversPart a store status → CoversPart a store (with_child status l) ⊎ In a (narrow store l)
split_covers a store Open l above takes law h = elim (In-narrow a store l above law.0.known h) [ inl x ↦ inr x | inr x ↦ inl x ]
split_covers a store (Half first) l above takes law h = inr (rw law h)
split_covers a store (Split first) l above takes law h = absurd takes

greater_le : (p q : ℤ × ℤ) (v : ℚ) → number_of p ≤ℚ v → number_of q ≤ℚ v → number_of (greater p q) ≤ℚ v
greater_le p q v h k = by_test (int_lt (p.0 *ℤ q.1) (q.0 *ℤ p.1))
  where
    by_test : (b : Bool) → number_of (cond b q p) ≤ℚ v
    by_test true = k
    by_test false = h

pub first_raised : (goals : List Goal) (store : List Extent) (fs : List (ℤ × ℤ)) (vs : List ℚ) → AreFloors (numbers_of fs) vs → AreFloors (numbers_of (least_costs goals store)) vs → AreFloors (numbers_of (raised_first goals store fs)) vs
first_raised [] store fs vs one two = one
first_raised (g ∷ goals) store [] vs one two = tt
first_raised (g ∷ goals) store (f ∷ fs) [] one two = absurd one
first_raised (g ∷ goals) store (f ∷ fs) (v ∷ vs) one two = (greater_le f (least_cost store g, pos 1) v one.0 two.0, one.1)

raised_floors : (gs xs : List (ℤ × ℤ)) (vs : List ℚ) → AreFloors (numbers_of gs) vs → AreFloors (numbers_of xs) vs → AreFloors (numbers_of (raised gs xs)) vs
raised_floors [] xs vs one two = tt
raised_floors (g ∷ gs) [] vs one two = tt
raised_floors (g ∷ gs) (x ∷ xs) [] one two = absurd one
raised_floors (g ∷ gs) (x ∷ xs) (v ∷ vs) one two = (greater_le g x v one.0 two.0, raised_floors gs xs vs one.1 two.1)

-- ---- the moves

module _ (m : FlatModel) (P : Point → Type 0) where
  -- the focus is closed, and covered nothing
  pub close_keeps : (t : Tree) → ((a : Point) → P a → Covers a (focus_of t) → ⊥) → TreeSound m P t.nodes → TreeSound m P (close_focus t).nodes
  close_keeps t none sound = record {
    covered = λ a p. Covered-pruned a (without_node t.nodes t.focus) (Covered-without a t.nodes t.focus (none a p) (sound.covered a p));
    floors = λ a p. AllLow-pruned m a (without_node t.nodes t.focus) (AllLow-without m a t.nodes t.focus (sound.floors a p));
  }

  -- the focus has another store or other floors, which still cover what it covered, and are as low
  pub focus_keeps : (t : Tree) (new : NodeView) → ((a : Point) → P a → Covers a (focus_of t) → Covers a new) → ((a : Point) → P a → IsLow m a (focus_of t) → IsLow m a new) → TreeSound m P t.nodes → TreeSound m P (set_node t.nodes t.focus new)
  focus_keeps t new covers low sound = record {
    covered = λ a p. Covered-set a t.nodes t.focus new (covers a p) (sound.covered a p);
    floors = λ a p.
        let lows = sound.floors a p in
        AllLow-set m a t.nodes t.focus new (low a p (node_low m a t.nodes t.focus lows)) lows;
  }

  -- a child opens
  pub open_keeps : (t : Tree) (parent : ℕ) (l : Literal) → All (λ (g : Goal). All (λ u. u.0 < length (narrow (node_at t.nodes parent).store l)) g.terms) m.goals → AreOrdered (narrow (node_at t.nodes parent).store l) → ((a : Point) → P a → pos 0 <ℤ a.denominator) → TakesChild (node_at t.nodes parent).status → LawfulChild (node_at t.nodes parent).store (node_at t.nodes parent).status l → TreeSound m P t.nodes → TreeSound m P (open_child m t parent l).nodes
  open_keeps t parent l known ordered positive takes law sound =
      let old = node_at t.nodes parent in
      let new : NodeView = record old { status = with_child old.status l } in
      let child = child_of m t.count old l in
      record {
        covered = λ a p. joined a new child (Covered-split a t.nodes parent new child (λ h. split_covers a old.store old.status l (positive a p) takes law h) (sound.covered a p));
        floors = λ a p.
            let low = sound.floors a p in
            let here = node_low m a t.nodes parent low in
            let below : IsLow m a child = λ h. raised_floors old.floors (least_costs m.goals (narrow old.store l)) (costs m a) (here (In-from_narrow a old.store l (positive a p) h)) (least_costs-le a (narrow old.store l) m.goals (positive a p) ordered h known) in
            AllLow-push m a (set_node t.nodes parent new) child (AllLow-set m a t.nodes parent new here low) below;
      }
    where
      joined : (a : Point) (new child : NodeView) → Covered a (set_node t.nodes parent new) ⊎ Covers a child → Covered a (set_node t.nodes parent new ++ child ∷ [])
      joined a new child (inl x) = Covered-append a (set_node t.nodes parent new) (child ∷ []) x
      joined a new child (inr x) = Covered_last a (set_node t.nodes parent new) child x

  pub root_sound : (store : List Extent) → All (λ (g : Goal). All (λ u. u.0 < length store) g.terms) m.goals → AreOrdered store → ((a : Point) → P a → pos 0 <ℤ a.denominator) → ((a : Point) → P a → In a store) → TreeSound m P (root_of m store).nodes
  root_sound store known ordered positive inside = record {
    covered = λ a p. inl (inside a p);
    floors = λ a p. (λ h. least_costs-le a store m.goals (positive a p) ordered h known, tt);
  }

  -- a refuted tree has none of the family
  pub refuted_none : (nodes : List NodeView) → TreeSound m P nodes → nodes ≡ [] → (a : Point) → P a → ⊥
  refuted_none nodes sound e a p = let h : Covered a [] = rw e at (sound.covered a p) in h

-- fewer assignments
pub fewer_keeps : (m : FlatModel) (P Q : Point → Type 0) (nodes : List NodeView) → ((a : Point) → Q a → P a) → TreeSound m P nodes → TreeSound m Q nodes
fewer_keeps m P Q nodes fewer sound = record {
  covered = λ a q. sound.covered a (fewer a q);
  floors = λ a q. sound.floors a (fewer a q);
}
