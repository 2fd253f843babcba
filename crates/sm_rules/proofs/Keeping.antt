-- Each allowed line keeps Sound, and an allowed verdict of a sound state is true.
use Rattle.std.proofs.Common.{◌≡◌, ℕ, suc, ◌<◌, Bool, true, false, cond, Option, Some, None, List, [], ◌∷◌, length, map, get_or, refl, subst, ◌∙◌, arith, inl, inr}
use Rattle.std.specs.Ordering.{int_eq}
use Rattle.std.specs.List.{list_any}
use Rattle.std.specs.Prelude.{ℤ, pos, ◌*ℤ◌, ◌<ℤ◌, ◌≤ℤ◌, All, IfSome, IsSome, MatchOption, ◌==◌, ◌||◌, unsigned_abs}
use Rattle.std.proofs.lemmas.Int.{ints}
use Rattle.std.proofs.lemmas.Bool.{cases_lt}
use Rattle.std.proofs.lemmas.List.{get_or_past}
use Rattle.std.proofs.lemmas.List.Elements.{All-nil, All-head, All-tail}
use Rattle.sm_frac.specs.Rational.{fraction, ◌<ℚ◌}
use Rattle.sm_frac.proofs.Order.{le_from_lt, lt_le_trans, le_equal, le_lt_trans}
use Rattle.sm_flat.specs.declared.goal.Goal.{Goal}
use Rattle.sm_flat.specs.declared.form.Form.{Form}
use Rattle.sm_kinds.specs.declared.literal.Literal.{Literal}
use Rattle.sm_kinds.specs.declared.var.VarKind.{VarKind}
use Rattle.sm_kinds.specs.declared.var.VarKind.TheVariants.{Set, Int, Real}
use Rattle.sm_flat.specs.Models.{FlatModel}
use Rattle.sm_kinds.specs.Vars.{IsBetween, LiesIn}
use Rattle.sm_kinds.specs.Points.{Point}
use Rattle.sm_flat.specs.Assignments.{point, point_of}
use Rattle.sm_flat.specs.Assignments.{Numbers}
use Rattle.sm_flat.specs.Forms.{Sat}
use Rattle.sm_flat.specs.Goals.{cost, IsBetterBy, IsBetter, HasValues}
use Rattle.sm_flat.specs.Solutions.{Fits, Solves, SolvesOn, IsOptimum}
use Rattle.sm_flat.specs.Limits.{IsFlat}
use Rattle.sm_store.specs.Stores.{Extent, no_extent, extent_at, In, narrow, narrow_all, is_empty, declared, fixed_value, one_end, fixed_at, fixed_point, IsStoreOf}
use Rattle.sm_store.proofs.Parts.{store_declared, store_narrowed, in_declared}
use Rattle.sm_store.proofs.Narrowing.{In-from_narrow}
use Rattle.sm_step.specs.declared.rule.Rule.{Rule}
use Rattle.sm_step.specs.declared.line.Outcome.{Outcome}
use Rattle.sm_step.specs.declared.line.Outcome.TheVariants.{Close, Literals}
use Rattle.sm_rows.specs.Inferences.{constraint_of, IsInference}
use Rattle.sm_rows.proofs.Inferring.{lies_none, inference_closes, inference_keeps}
use Rattle.sm_step.specs.declared.line.Line.{Line}
use Rattle.sm_step.specs.declared.line.Line.TheVariants as line
use Rattle.sm_step.specs.declared.verdict.Verdict.{Verdict}
use Rattle.sm_step.specs.declared.verdict.Verdict.TheVariants.{Optimal, Satisfied, Infeasible, Limit, Range}
use Rattle.sm_step.specs.Verdicts.{parts_of, IsTrueOf}
use Rattle.sm_rules.specs.declared.node.Status.{Status}
use Rattle.sm_rules.specs.declared.node.Status.TheVariants.{Open}
use Rattle.sm_rules.specs.Objectives.{costs}
use Rattle.sm_rules.specs.Floors.{AreFloors, numbers_of}
use Rattle.sm_rules.specs.Nodes.{NodeView, CoversPart, Covers, TakesChild, LawfulChild}
use Rattle.sm_rules.specs.Trees.{node_at, focus_of, close_focus, has_empty, with_focus, raised_first, raise_focus, IsRefuted}
use Rattle.sm_rules.specs.Violations.{AreFixed, IsViolated}
use Rattle.sm_kinds.proofs.SameValues.{EqualAt, EqualAt-whole}
use Rattle.sm_flat.proofs.Meaning.{same_values, each_var}
use Rattle.sm_rules.specs.States.{State}
use Rattle.sm_rules.specs.Laws.{BeatsBest, IsNextBest, LawfulVerdict, Allowed}
use Rattle.sm_rules.specs.Cuts.{SatisfiesLemma, SatisfiesCut}
use Rattle.sm_rules.specs.Transitions.{with_tree, concluded, after, start}
use Rattle.sm_rules.specs.Sound.{Live, Sound, named, IsNodeOf, IsOf, IsTrueOn}
use Rattle.sm_rules.proofs.LeastCosts.{AreOrdered, least_costs-le}
use Rattle.sm_rules.proofs.Levels.{fraction_lt, fraction_equal, none_better}
use Rattle.sm_rules.proofs.Moves.{node_low, close_keeps, open_keeps, root_sound, refuted_none, fewer_keeps, focus_keeps, first_raised}

-- ---- better goes on

better_trans : (a b c : Point) (goals : List Goal) → pos 0 <ℤ a.denominator → pos 0 <ℤ b.denominator → pos 0 <ℤ c.denominator → IsBetterBy goals a b → IsBetterBy goals b c → IsBetterBy goals a c
better_trans a b c [] p q r one two = one
better_trans a b c (g ∷ gs) p q r one two = go (better_trans a b c gs p q r) one two
  where
    less_ab : (cost g a *ℤ b.denominator) <ℤ (cost g b *ℤ a.denominator) → fraction (cost g a) (unsigned_abs a.denominator) <ℚ fraction (cost g b) (unsigned_abs b.denominator)
    less_ab h = (fraction_lt (cost g a) (cost g b) a.denominator b.denominator p q).0 h

    less_bc : (cost g b *ℤ c.denominator) <ℤ (cost g c *ℤ b.denominator) → fraction (cost g b) (unsigned_abs b.denominator) <ℚ fraction (cost g c) (unsigned_abs c.denominator)
    less_bc h = (fraction_lt (cost g b) (cost g c) b.denominator c.denominator q r).0 h

    same_ab : cost g a *ℤ b.denominator ≡ cost g b *ℤ a.denominator → fraction (cost g a) (unsigned_abs a.denominator) ≡ fraction (cost g b) (unsigned_abs b.denominator)
    same_ab h = (fraction_equal (cost g a) (cost g b) a.denominator b.denominator p q).0 h

    same_bc : cost g b *ℤ c.denominator ≡ cost g c *ℤ b.denominator → fraction (cost g b) (unsigned_abs b.denominator) ≡ fraction (cost g c) (unsigned_abs c.denominator)
    same_bc h = (fraction_equal (cost g b) (cost g c) b.denominator c.denominator q r).0 h

    less_ac : fraction (cost g a) (unsigned_abs a.denominator) <ℚ fraction (cost g c) (unsigned_abs c.denominator) → (cost g a *ℤ c.denominator) <ℤ (cost g c *ℤ a.denominator)
    less_ac h = (fraction_lt (cost g a) (cost g c) a.denominator c.denominator p r).1 h

    same_ac : fraction (cost g a) (unsigned_abs a.denominator) ≡ fraction (cost g c) (unsigned_abs c.denominator) → cost g a *ℤ c.denominator ≡ cost g c *ℤ a.denominator
    same_ac h = (fraction_equal (cost g a) (cost g c) a.denominator c.denominator p r).1 h

    go : (IsBetterBy gs a b → IsBetterBy gs b c → IsBetterBy gs a c) → IsBetterBy (g ∷ gs) a b → IsBetterBy (g ∷ gs) b c → IsBetterBy (g ∷ gs) a c
    go rest (inl x) (inl y) = inl (less_ac (lt_le_trans _ _ _ (less_ab x) (le_from_lt _ _ (less_bc y))))
    go rest (inl x) (inr y) = inl (less_ac (lt_le_trans _ _ _ (less_ab x) (le_equal _ _ (same_bc y.0))))
    go rest (inr x) (inl y) = inl (less_ac (le_lt_trans _ _ _ (le_equal _ _ (same_ab x.0)) (less_bc y)))
    go rest (inr x) (inr y) = inr (same_ac (same_ab x.0 ∙ same_bc y.0), rest x.1 y.1)

-- ---- a violated constraint

in_range_of : (store : List Extent) (i : ℕ) → IsSome (fixed_at store i) → i < length store
in_range_of store i some = elim (cases_lt i (length store)) [
  | inl lt ↦ lt
  | inr past ↦
      let P : Extent → Type 0 = λ e. IsSome (fixed_value e.kind e.values) in
      let none : IsSome (fixed_value Set []) = subst P (get_or_past store i no_extent past) some in
      absurd (cc)
]

-- between ends that are the same there is one number
same_ends : (low high n d : ℤ) → IsSome (cond (int_eq low high) (Some low) None) → (low *ℤ d) ≤ℤ n → n ≤ℤ (high *ℤ d) → n ≡ low *ℤ d
same_ends low high n d some from to = cases (int_eq low high) refl some
  where
    cases : (b : Bool) → int_eq low high ≡ b → IsSome (cond b (Some low) None) → n ≡ low *ℤ d
    cases true e some =
        let same : low ≡ high = grind (arith, ints) in
        let below : n ≤ℤ (low *ℤ d) = rw same to in
        omega (arith, ints, from, below)
    cases false e some = absurd (cc)

fixed_range : (vs : List ℤ) (n d : ℤ) → IsSome (one_end vs) → IsBetween n d vs → n ≡ get_or vs 0 (pos 0) *ℤ d
fixed_range [] n d some h = absurd h
fixed_range (v ∷ []) n d some h = absurd h
fixed_range (low ∷ high ∷ vs) n d some h = same_ends low high n d some h.0 h.1

fixed_is : (kind : VarKind) (vs : List ℤ) (n d : ℤ) → IsSome (fixed_value kind vs) → LiesIn kind vs n d → n ≡ get_or vs 0 (pos 0) *ℤ d
fixed_is Set [] n d some h = absurd h
fixed_is Set (v ∷ []) n d some (inl here) = here
fixed_is Set (v ∷ []) n d some (inr there) = absurd there
fixed_is Set (v ∷ w ∷ vs) n d some h = absurd (cc)
fixed_is Int vs n d some h = fixed_range vs n d some h.0
fixed_is Real vs n d some h = absurd (cc)

-- where all variables are fixed, what lies in the store has their values, whatever its denominator
sat_fixed : (f : Form) (a : Point) (store : List Extent) → pos 0 <ℤ a.denominator → In a store → AreFixed store f → Sat f a → Sat f (fixed_point store)
sat_fixed f a store p h fixed sat =
    let equal : (v : ℕ) → IsSome (fixed_at store v) → EqualAt a (fixed_point store) v = λ v some.
    let e = extent_at store v in
    EqualAt-whole a (fixed_point store) v refl (fixed_is e.kind e.values (a.numerator v) a.denominator some (h v (in_range_of store v some))) in
    let unit : pos 1 ≤ℤ a.denominator = omega (arith, ints) in
    (same_values a (fixed_point store) unit (omega (arith, ints)) f (each_var (λ v. IsSome (fixed_at store v)) (EqualAt a (fixed_point store)) equal f fixed)).0 sat

-- ---- nodes of a model's state

pub all_at : (P : NodeView → Type 0) (ns : List NodeView) (k : ℕ) → All P ns → TakesChild (node_at ns k).status → P (node_at ns k)
all_at P [] k all takes = absurd takes
all_at P (n ∷ ns) k all takes = by_test (n.number == k) (all_at P ns k (All-tail P n ns all)) takes
  where
    by_test : (b : Bool) → (TakesChild (node_at ns k).status → P (node_at ns k)) → TakesChild (cond b n (node_at ns k)).status → P (cond b n (node_at ns k))
    by_test true rest takes = All-head P n ns all
    by_test false rest takes = rest takes

pub takes_open : (status : Status) → status ≡ Open → TakesChild status
takes_open status e = rw e tt

pub ordered_of : (m : FlatModel) (store : List Extent) → IsStoreOf m store → AreOrdered store
ordered_of m store of i lt = (of.parts i lt).ordered

pub goals_known : (m : FlatModel) (store : List Extent) → IsFlat m → length store ≡ length m.vars → All (λ (g : Goal). All (λ t. t.0 < length store) g.terms) m.goals
goals_known m store flat wide i d lt = rw wide (flat.goals.each i d lt).sum.known

-- ---- the kinds of line

any_found : {X : Type 0} (p : X → Bool) (xs : List X) (d : X) → list_any p xs ≡ true → (i : ℕ) × (i < length xs) × (p (get_or xs i d) ≡ true)
any_found p [] d h = absurd (cc)
any_found p (x ∷ xs) d h = by_test (p x) refl h (any_found p xs d)
  where
    by_test : (b : Bool) → p x ≡ b → (b || list_any p xs) ≡ true → (list_any p xs ≡ true → (i : ℕ) × (i < length xs) × (p (get_or xs i d) ≡ true)) → (i : ℕ) × (i < suc (length xs)) × (p (get_or (x ∷ xs) i d) ≡ true)
    by_test true e h rest = (0, omega arith, e)
    by_test false e h rest = let at = rest h in (suc at.0, omega (arith, at.1), at.2)

module _ (m : FlatModel) (s : ℕ → Bool) (state : State) (of : IsOf m state) (sound : Sound m s state) where
  -- an open focus covers what lies in its store
  lies_covered : (a : Point) (status : Status) (store : List Extent) → status ≡ Open → CoversPart a store status → In a store
  lies_covered a status store e h = rw e at h

  closed : ((a : Point) → Live m s state.best a → Covers a (focus_of state.main) → ⊥) → Sound m s (with_tree state (close_focus state.main))
  closed none = record {
    best = sound.best;
    tree = close_keeps m (Live m s state.best) state.main none sound.tree;
    lemmas = sound.lemmas;
    cuts = sound.cuts;
  }

  violated : (k : ℕ) → (focus_of state.main).status ≡ Open → IsViolated m (focus_of state.main).store k → s k ≡ true → Sound m s (after m state (line.Violated k))
  violated k is_open bad named =
      closed (λ a live h.
      let lies = lies_covered a (focus_of state.main).status (focus_of state.main).store is_open h in
      bad.fails (sat_fixed bad.constraint.form a (focus_of state.main).store live.solves.fits.positive lies bad.fixed (live.solves.satisfies k bad.constraint named bad.is)))

  beaten : (focus_of state.main).status ≡ Open → BeatsBest m (focus_of state.main).floors state.best → Sound m s (after m state line.CloseFloor)
  beaten is_open beats =
      closed (λ a live h.
      let lies = lies_covered a (focus_of state.main).status (focus_of state.main).store is_open h in
      none a state.best beats sound.best live.better live.solves.fits (node_low m a state.main.nodes state.main.focus (sound.tree.floors a live) lies))
    where
      none : (a : Point) (best : Option Numbers) → BeatsBest m (focus_of state.main).floors best → IfSome best (λ b. Solves m (point_of b)) → IfSome best (λ b. IsBetter m a (point_of b)) → Fits m a → AreFloors (numbers_of (focus_of state.main).floors) (costs m a) → ⊥
      none a None beats solves better fits low = beats
      none a (Some b) beats solves better fits low =
          none_better m a (point_of b) (numbers_of (focus_of state.main).floors) fits solves.fits (λ i d lt. (of.flat.goals.each i d lt).sum.known) low beats better

  opened : (parent : ℕ) (l : Literal) → TakesChild (node_at state.main.nodes parent).status → LawfulChild (node_at state.main.nodes parent).store (node_at state.main.nodes parent).status l → (id : ℕ) → Sound m s (after m state (line.Node id parent l))
  opened parent l takes law id =
      let old = node_at state.main.nodes parent in
      let node = all_at (λ (n : NodeView). IsNodeOf m n) state.main.nodes parent of.nodes takes in
      let store = store_narrowed m old.store l node.store in
      record {
        best = sound.best;
        tree = open_keeps m (Live m s state.best) state.main parent l (goals_known m (narrow old.store l) of.flat store.wide) (ordered_of m (narrow old.store l) store) (λ a live. live.solves.fits.positive) takes law sound.tree;
        lemmas = sound.lemmas;
        cuts = sound.cuts;
      }

  -- a better solution leaves fewer assignments alive
  live_before : (b : Point) (a : Point) → Solves m b → IfSome state.best (λ old. IsBetter m b (point_of old)) → SolvesOn m s a → IsBetter m a b → Live m s state.best a
  live_before b a solves better on less = record { solves = on; better = go state.best sound.best better }
    where
      go : (best : Option Numbers) → IfSome best (λ old. Solves m (point_of old)) → IfSome best (λ old. IsBetter m b (point_of old)) → IfSome best (λ old. IsBetter m a (point_of old))
      go None old_solves better = tt
      go (Some old) old_solves better = better_trans a b (point_of old) m.goals on.fits.positive solves.fits.positive old_solves.fits.positive less better

  solved : (d : ℤ) (vs : List ℤ) → IsNextBest m state.best d vs → Sound m s (after m state (line.Sol d vs))
  solved d vs next = record {
    best = next.solves;
    tree = fewer_keeps m (Live m s state.best) (Live m s (Some (record { denominator = d; values = vs }))) state.main.nodes (λ a live. live_before (point d vs) a next.solves next.better live.solves live.better) sound.tree;
    lemmas = λ a live. sound.lemmas a (live_before (point d vs) a next.solves next.better live.solves live.better);
    cuts = sound.cuts;
  }

  -- a store with an empty domain has no assignment
  none_lies : (a : Point) (store : List Extent) → In a store → has_empty store ≡ true → ⊥
  none_lies a store lies empty =
      let at = any_found (λ (e : Extent). is_empty e.values) store no_extent empty in
      let e = extent_at store at.0 in
      lies_none e.kind e.values (a.numerator at.0) a.denominator at.2 (lies at.0 at.1)

  -- what lies in a narrowed store lies in the store
  lies_before : (a : Point) (store : List Extent) (ls : List Literal) → pos 0 <ℤ a.denominator → In a (narrow_all store ls) → In a store
  lies_before a store [] above h = h
  lies_before a store (l ∷ ls) above h = In-from_narrow a store l above (lies_before a (narrow store l) ls above h)

  inferred : (r : Rule) (outcome : Outcome) → (focus_of state.main).status ≡ Open → IsInference m (focus_of state.main).store r outcome → s (constraint_of r) ≡ true → Sound m s (with_tree state (concluded outcome state.main))
  inferred r Close is_open law named =
      closed (λ a live h.
      let lies = lies_covered a old.status old.store is_open h in
      inference_closes m of.flat old.store node.store r a live.solves.fits.positive lies (λ c e. live.solves.satisfies (constraint_of r) c named e) law)
    where
      old : NodeView
      old = focus_of state.main

      node : IsNodeOf m old
      node = all_at (λ (n : NodeView). IsNodeOf m n) state.main.nodes state.main.focus of.nodes (takes_open old.status is_open)
  inferred r (Literals ls) is_open law named = by_test (has_empty (narrow_all old.store ls)) refl
    where
      old : NodeView
      old = focus_of state.main

      new : NodeView
      new = record old { store = narrow_all old.store ls }

      node : IsNodeOf m old
      node = all_at (λ (n : NodeView). IsNodeOf m n) state.main.nodes state.main.focus of.nodes (takes_open old.status is_open)

      left : (a : Point) → Live m s state.best a → Covers a old → In a (narrow_all old.store ls)
      left a live h =
          let lies = lies_covered a old.status old.store is_open h in
          inference_keeps m of.flat old.store node.store r a live.solves.fits.positive lies (λ c e. live.solves.satisfies (constraint_of r) c named e) ls law

      covers : (a : Point) → In a (narrow_all old.store ls) → Covers a new
      covers a h = rw is_open h

      by_test : (b : Bool) → has_empty (narrow_all old.store ls) ≡ b → Sound m s (with_tree state (cond b (close_focus state.main) (with_focus state.main new)))
      by_test true e = closed (λ a live h. none_lies a (narrow_all old.store ls) (left a live h) e)
      by_test false e = record {
        best = sound.best;
        tree = focus_keeps m (Live m s state.best) state.main new (λ a live h. covers a (left a live h)) (λ a live low h. low (lies_before a old.store ls live.solves.fits.positive h)) sound.tree;
        lemmas = sound.lemmas;
        cuts = sound.cuts;
      }

  floored : (focus_of state.main).status ≡ Open → Sound m s (with_tree state (raise_focus m state.main))
  floored is_open =
      let old = focus_of state.main in
      let new : NodeView = record old { floors = raised_first m.goals old.store old.floors } in
      let node = all_at (λ (n : NodeView). IsNodeOf m n) state.main.nodes state.main.focus of.nodes (takes_open old.status is_open) in
      record {
        best = sound.best;
        tree = focus_keeps m (Live m s state.best) state.main new (λ a live h. h)
            (λ a live low h. first_raised m.goals old.store old.floors (costs m a) (low h) (least_costs-le a old.store m.goals live.solves.fits.positive (ordered_of m old.store node.store) h (goals_known m old.store of.flat node.store.wide)))
            sound.tree;
        lemmas = sound.lemmas;
        cuts = sound.cuts;
      }

-- each allowed line keeps Sound, for each test that passes the constraints that it names
pub sound_after : (m : FlatModel) (s : ℕ → Bool) (state : State) (l : Line) → IsOf m state → Allowed m state l → All (λ k. s k ≡ true) (named l) → Sound m s state → Sound m s (after m state l)
sound_after m s state (line.Header version) of ok within sound = record { best = sound.best; tree = sound.tree; lemmas = sound.lemmas; cuts = sound.cuts }
sound_after m s state (line.Node id parent l) of ok within sound = opened m s state of sound parent l ok.due.order.takes ok.law id
sound_after m s state (line.Infer r outcome) of ok within sound = inferred m s state of sound r outcome ok.due.order.is_open ok.law (All-head (λ k. s k ≡ true) (constraint_of r) [] within)
sound_after m s state (line.Floor terms) of ok within sound = floored m s state of sound ok.due.order.is_open
sound_after m s state line.CloseFloor of ok within sound = beaten m s state of sound ok.due.order.is_open ok.law
sound_after m s state (line.Violated k) of ok within sound = violated m s state of sound k ok.due.order.is_open ok.law (All-head (λ k. s k ≡ true) k [] within)
sound_after m s state (line.Sol d vs) of ok within sound = solved m s state of sound d vs ok.law
sound_after m s state (line.Verdict v) of ok within sound = record { best = sound.best; tree = sound.tree; lemmas = sound.lemmas; cuts = sound.cuts }
sound_after m s state _ of ok within sound = absurd ok.law

pub sound_start : (m : FlatModel) (s : ℕ → Bool) → IsFlat m → Sound m s (start m)
sound_start m s flat =
    let store = store_declared m flat in
    record {
      best = tt;
      tree = root_sound m (Live m s None) (declared m.vars) (goals_known m (declared m.vars) flat store.wide) (ordered_of m (declared m.vars) store) (λ a live. live.solves.fits.positive) (λ a live. in_declared m a live.solves.fits);
      lemmas = λ a live. All-nil (SatisfiesLemma a);
      cuts = λ a on. All-nil (SatisfiesCut a);
    }

-- ---- verdicts

-- what Sound says of a refuted tree
pub refuted_means : (m : FlatModel) (s : ℕ → Bool) (state : State) → Sound m s state → IsRefuted state.main → IsTrueOn m s state.best
refuted_means m s state sound refuted = go state.best (refuted_none m (Live m s state.best) state.main.nodes sound.tree refuted)
  where
    go : (best : Option Numbers) → ((a : Point) → Live m s best a → ⊥) → IsTrueOn m s best
    go None none = λ a solves. none a (record { solves = solves; better = tt })
    go (Some b) none = λ a solves better. none a (record { solves = solves; better = better })

on_any : (m : FlatModel) (s : ℕ → Bool) (a : Point) → Solves m a → SolvesOn m s a
on_any m s a solves = record { fits = solves.fits; satisfies = λ k c e is. solves.satisfies k c is }

pub verdict_is_true : (m : FlatModel) (s : ℕ → Bool) (state : State) (v : Verdict) → Sound m s state → LawfulVerdict m state v → IsTrueOf m state.best v
verdict_is_true m s state (Optimal values) sound law = optimum state.best sound.best law.1 (refuted_means m s state sound law.2)
  where
    optimum : (best : Option Numbers) → IfSome best (λ b. Solves m (point_of b)) → MatchOption best ⊥ (λ b. HasValues m (point_of b) (map parts_of values)) → IsTrueOn m s best → MatchOption best ⊥ (λ b. IsOptimum m (point_of b) (map parts_of values))
    optimum None solves attains on = attains
    optimum (Some b) solves attains on = record { solves = solves; attains = attains; best = λ a solves'. on a (on_any m s a solves') }
verdict_is_true m s state Satisfied sound law = some state.best sound.best law.1
  where
    some : (best : Option Numbers) → IfSome best (λ b. Solves m (point_of b)) → MatchOption best ⊥ (λ b. Unit {0}) → MatchOption best ⊥ (λ b. Solves m (point_of b))
    some None solves there = there
    some (Some b) solves there = solves
verdict_is_true m s state Infeasible sound law =
    let on : IsTrueOn m s None = rw law.0 at (refuted_means m s state sound law.1) in
    λ a solves. on a (on_any m s a solves)
verdict_is_true m s state (Limit nodes bound best) sound law = absurd law
verdict_is_true m s state (Range bound best) sound law = absurd law
