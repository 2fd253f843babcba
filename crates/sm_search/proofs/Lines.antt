-- The lines that the loop puts are allowed, and its own.
use Rattle.std.proofs.Common.{◌≡◌, ◌≢◌, ℕ, zero, suc, ◌^◌, ◌<◌, List, [], ◌∷◌, Option, Some, None, length, map, refl, sym, ap, subst, ◌∙◌, arith}
use Rattle.std.specs.Prelude.{ℤ, pos, ◌<ℤ◌, All, IfSome, IsSome, MatchOption, slice_get}
use Rattle.sm_frac.specs.declared.fraction.Frac.{Frac}
use Rattle.sm_kinds.specs.declared.literal.Literal.{Literal}
use Rattle.sm_flat.specs.declared.goal.Goal.{Goal}
use Rattle.sm_flat.specs.declared.form.Constraint.{Constraint}
use Rattle.sm_flat.specs.Forms.{Sat}
use Rattle.sm_flat.specs.Models.{FlatModel}
use Rattle.sm_kinds.specs.Points.{Point}
use Rattle.sm_flat.specs.Assignments.{point_of}
use Rattle.sm_flat.specs.Assignments.{Numbers}
use Rattle.sm_flat.specs.Goals.{IsBetter, HasValuesBy, HasValues}
use Rattle.sm_flat.specs.Solutions.{Solves, Fits}
use Rattle.sm_kinds.specs.declared.var.VarKind.TheVariants.{Real}
use Rattle.sm_kinds.specs.Vars.{no_var}
use Rattle.sm_store.specs.Stores.{Extent, extent_at, least_of, fixed_point, IsStoreOf}
use Rattle.std.proofs.lemmas.Int.{ints}
use Rattle.std.proofs.lemmas.List.{length-map}
use Rattle.sm_step.specs.declared.line.Line.{Line}
use Rattle.sm_step.specs.declared.line.Line.TheVariants as line
use Rattle.sm_step.specs.declared.verdict.Verdict.{Verdict}
use Rattle.sm_step.specs.declared.verdict.Verdict.TheVariants.{Optimal, Satisfied, Infeasible, Limit, Range}
use Rattle.sm_step.specs.Verdicts.{parts_of}
use Rattle.sm_rules.specs.declared.node.Status.{Status}
use Rattle.sm_rules.specs.declared.node.Status.TheVariants.{Open, Half}
use Rattle.sm_rules.specs.declared.cause.Cause.{Cause}
use Rattle.sm_rules.specs.declared.cause.Cause.TheVariants as cause
use Rattle.sm_rules.specs.Nodes.{NodeView, TakesChild, LawfulChild}
use Rattle.sm_rules.specs.Floors.{EndsNode, numbers_of}
use Rattle.sm_rules.specs.Objectives.{levels}
use Rattle.sm_rules.specs.Trees.{Tree, node_at, focus_of, IsRefuted}
use Rattle.sm_rules.specs.Halves.{HasOneChild, IsLastHalf}
use Rattle.sm_rules.specs.Violations.{IsViolated}
use Rattle.sm_rules.specs.States.{State}
use Rattle.sm_rules.specs.Laws.{BeatsBest, IsNextBest, AsksForAny, LawfulVerdict, Allowed}
use Rattle.sm_rules.specs.Transitions.{after, start, IsRefusedFor}
use Rattle.sm_rules.specs.Sound.{IsNodeOf, IsBestOf}
use Rattle.sm_rules.proofs.Keeping.{all_at, goals_known}
use Rattle.sm_search.specs.Fits.{AreFilled, IsFilled, IsRaised, IsFit, IsRunning, IsAtOpen}
use Rattle.sm_search.specs.Leaves.{AreAllFixed, NoneUnfixed, first_values, IsSolvedLeaf, FailsConstraint, whole_values}
use Rattle.sm_search.specs.Turns.{GoesOn, IsDecided, IsReached}
use Rattle.sm_search.specs.Weights.{weight, nodes_weight}
use Rattle.sm_search.proofs.Weights.{node_falls, close_falls}
use Rattle.sm_search.proofs.Sizes.{fixed_of}
use Rattle.sm_search.proofs.Leaves.{point_is, ends_leaf, better_irrefl, fits_leaf, assignment_leaf, violated_leaf}
use Rattle.sm_search.specs.Picks.{Splits}
use Rattle.sm_search.proofs.NodeLists.{none_open, refuted_of}

-- an allowed line isn't refused
pub not_refused : (m : FlatModel) (s : State) (l : Line) (c : Cause) → Allowed m s l → IsRefusedFor m s l c → ⊥
not_refused m s l cause.Grammar ok h = h
not_refused m s l cause.Order ok h = h ok.due
not_refused m s l cause.Law ok h = h.1 ok.law
not_refused m s l cause.Verdict ok h = h.1 ok.law
not_refused m s l cause.End ok h = h

pub allow_header : (m : FlatModel) → Allowed m (start m) (line.Header 1)
allow_header m = record { due = record { running = refl; order = refl }; law = refl }

lawful_open : (store : List Extent) (status : Status) (l : Literal) → status ≡ Open → Splits store l → LawfulChild store status l
lawful_open store status l e splits = rw e (splits.first, splits.second, λ real. splits.first.changes (rw real refl))

takes_open : (status : Status) → status ≡ Open → TakesChild status
takes_open status e = rw e tt

-- a first child opens under the focus
pub allow_split : (m : FlatModel) (s : State) (id : ℕ) (l : Literal) → IsAtOpen s → id ≡ s.main.count → Splits (focus_of s.main).store l → Allowed m s (line.Node id s.main.focus l)
allow_split m s id l at next splits = record {
  due = record { running = at.going.running; order = record { begun = at.going.begun; next = next; takes = takes_open (focus_of s.main).status at.is_open } };
  law = lawful_open (focus_of s.main).store (focus_of s.main).status l at.is_open splits;
}

-- a second child opens
pub allow_second : (m : FlatModel) (s : State) (id parent : ℕ) (l : Literal) → IsRunning s → id ≡ s.main.count → IsLastHalf s.main.nodes parent l → Allowed m s (line.Node id parent l)
allow_second m s id parent l going next half =
    let n = node_at s.main.nodes parent in
    let takes : TakesChild n.status = rw half.status tt in
    let law : LawfulChild n.store n.status l = rw half.status half.other in
    record { due = record { running = going.running; order = record { begun = going.begun; next = next; takes = takes } }; law = law }

pub allow_close : (m : FlatModel) (s : State) → IsAtOpen s → BeatsBest m (focus_of s.main).floors s.best → Allowed m s line.CloseFloor
allow_close m s at beats = record { due = record { running = at.going.running; order = record { begun = at.going.begun; is_open = at.is_open } }; law = beats }

pub allow_violated : (m : FlatModel) (s : State) (k : ℕ) → IsAtOpen s → IsViolated m (focus_of s.main).store k → Allowed m s (line.Violated k)
allow_violated m s k at bad = record { due = record { running = at.going.running; order = record { begun = at.going.begun; is_open = at.is_open } }; law = bad }

pub allow_solution : (m : FlatModel) (s : State) (d : ℤ) (vs : List ℤ) → IsRunning s → IsNextBest m s.best d vs → Allowed m s (line.Sol d vs)
allow_solution m s d vs going next = record { due = record { running = going.running; order = going.begun }; law = next }

pub allow_verdict : (m : FlatModel) (s : State) (v : Verdict) → IsRunning s → LawfulVerdict m s v → Allowed m s (line.Verdict v)
allow_verdict m s v going law = record { due = record { running = going.running; order = going.begun }; law = law }

-- no lawful verdict gives up
pub decided_of : (m : FlatModel) (s : State) (v : Verdict) → LawfulVerdict m s v → IsDecided v
decided_of m s (Optimal values) law = tt
decided_of m s Satisfied law = tt
decided_of m s Infeasible law = tt
decided_of m s (Limit nodes bound best) law = law
decided_of m s (Range bound best) law = law

-- ---- nothing is left

no_half : (status : Status) → (HasOneChild status → ⊥) → (l : Literal) → status ≢ Half l
no_half status none l e = let h : HasOneChild status = rw e tt in none h

pub refuted_end : (m : FlatModel) (s : State) → IsFit m s → (focus_of s.main).status ≢ Open → All (λ (n : NodeView). HasOneChild n.status → ⊥) s.main.nodes → IsRefuted s.main
refuted_end m s fit closed none =
    refuted_of s.main.nodes fit.of.kept (none_open s.main.nodes s.main.focus closed fit.of.numbered.rising fit.only) (λ i d lt. no_half _ (none i d lt))

-- ---- what they lead to

running_after : (s : State) (main : Tree) → IsRunning s → IsRunning (record s { main = main })
running_after s main going = record { begun = going.begun; running = going.running }

pub goes_on_node : (m : FlatModel) (s : State) (id parent : ℕ) (l : Literal) → IsFit m s → IsRunning s → Allowed m s (line.Node id parent l) → GoesOn s (after m s (line.Node id parent l))
goes_on_node m s id parent l fit going ok = record { going = record { begun = going.begun; running = going.running }; falls = node_falls m s id parent l fit ok }

pub goes_on_split : (m : FlatModel) (s : State) (id : ℕ) (l : Literal) → IsFit m s → IsAtOpen s → id ≡ s.main.count → Splits (focus_of s.main).store l → GoesOn s (after m s (line.Node id s.main.focus l))
goes_on_split m s id l fit at next splits = goes_on_node m s id s.main.focus l fit at.going (allow_split m s id l at next splits)

pub goes_on_second : (m : FlatModel) (s : State) (id parent : ℕ) (l : Literal) → IsFit m s → IsRunning s → id ≡ s.main.count → IsLastHalf s.main.nodes parent l → GoesOn s (after m s (line.Node id parent l))
goes_on_second m s id parent l fit going next half = goes_on_node m s id parent l fit going (allow_second m s id parent l going next half)

pub goes_on_close : (m : FlatModel) (s : State) → IsAtOpen s → GoesOn s (after m s line.CloseFloor)
goes_on_close m s at = record { going = record { begun = at.going.begun; running = at.going.running }; falls = close_falls s.main at.is_open }

pub goes_on_violated : (m : FlatModel) (s : State) (k : ℕ) → IsAtOpen s → GoesOn s (after m s (line.Violated k))
goes_on_violated m s k at = record { going = record { begun = at.going.begun; running = at.going.running }; falls = close_falls s.main at.is_open }

-- where the search was as it is, it goes on from there
pub goes_on_reached : (m : FlatModel) (a b c : State) → IsReached m a b → GoesOn b c → GoesOn a c
goes_on_reached m a b c reached on =
    let e : weight b ≡ weight a = ap (λ (t : Tree). nodes_weight t.nodes) reached.same in
    record { going = on.going; falls = let f = on.falls in omega arith }

-- ---- a leaf that solves the model

open_node : (m : FlatModel) (s : State) → IsFit m s → IsAtOpen s → IsNodeOf m (focus_of s.main)
open_node m s fit at = all_at (λ (n : NodeView). IsNodeOf m n) s.main.nodes s.main.focus fit.of.nodes (takes_open (focus_of s.main).status at.is_open)

open_raised : (m : FlatModel) (s : State) → IsFit m s → IsAtOpen s → IsRaised m (focus_of s.main).store (focus_of s.main).floors Open
open_raised m s fit at =
    let all = all_at (λ (n : NodeView). IsRaised m n.store n.floors n.status) s.main.nodes s.main.focus fit.raised (takes_open (focus_of s.main).status at.is_open) in
    let P : Status → Type 0 = λ x. IsRaised m (focus_of s.main).store (focus_of s.main).floors x in
    subst P at.is_open all

pub open_filled : (m : FlatModel) (s : State) → IsFit m s → IsAtOpen s → AreFilled (focus_of s.main).store
open_filled m s fit at =
    let all = all_at (λ (n : NodeView). IsFilled n.store n.status) s.main.nodes s.main.focus fit.filled (takes_open (focus_of s.main).status at.is_open) in
    let P : Status → Type 0 = λ x. IsFilled (focus_of s.main).store x in
    subst P at.is_open all

pub store_of : (m : FlatModel) (s : State) → IsFit m s → IsAtOpen s → IsStoreOf m (focus_of s.main).store
store_of m s fit at = (open_node m s fit at).store

pub all_fixed : (m : FlatModel) (s : State) → IsFit m s → IsAtOpen s → NoneUnfixed (focus_of s.main).store → AreAllFixed (focus_of s.main).store
all_fixed m s fit at none i lt =
    let of = store_of m s fit at in
    let part = of.parts i lt in
    let e = extent_at (focus_of s.main).store i in
    let discrete : e.kind ≢ Real = rw part.kind (fit.discrete i no_var (omega (arith, of.wide, lt))) in
    fixed_of e.kind e.values discrete part.ordered (open_filled m s fit at i lt) (none i lt)

solves_leaf : (m : FlatModel) (store : List Extent) (a : Numbers) → IsStoreOf m store → IsSolvedLeaf m store a → Solves m (point_of a)
solves_leaf m store a of leaf =
    let e : point_of a ≡ fixed_point store = ap point_of leaf.is ∙ point_is store in
    let P : Point → Type 0 = λ p. Fits m p in
    record { fits = subst P (sym e) (fits_leaf m store of leaf.fixed); satisfies = leaf.solves.holds }

pub next_best : (m : FlatModel) (s : State) (a : Numbers) → IsFit m s → IsAtOpen s → IsSolvedLeaf m (focus_of s.main).store a → IfSome s.best (λ b. IsBetter m (point_of a) (point_of b)) → IsNextBest m s.best (pos 1) a.values
next_best m s a fit at leaf better =
    let of = store_of m s fit at in
    let P : Numbers → Type 0 = λ n. IsNextBest m s.best n.denominator n.values in
    let better' : IfSome s.best (λ b. IsBetter m (point_of (record { denominator = pos 1; values = first_values (focus_of s.main).store })) (point_of b)) = subst (λ (n : Numbers). IfSome s.best (λ b. IsBetter m (point_of n) (point_of b))) leaf.is better in
    let solves : Solves m (point_of (record { denominator = pos 1; values = first_values (focus_of s.main).store })) = subst (λ (n : Numbers). Solves m (point_of n)) leaf.is (solves_leaf m (focus_of s.main).store a of leaf) in
    let values : a.values ≡ first_values (focus_of s.main).store = ap (λ (n : Numbers). n.values) leaf.is in
    rw values (record { fit = assignment_leaf m (focus_of s.main).store of leaf.fixed; each = length-map {B = ℤ} (focus_of s.main).store least_of ∙ of.wide; solves = solves; better = better' })

-- the focus's floors reach what is no better than the best
beats_none : (m : FlatModel) (s : State) (a b : Numbers) → IsFit m s → IsAtOpen s → IsSolvedLeaf m (focus_of s.main).store a → pos 0 <ℤ b.denominator → (IsBetter m (point_of a) (point_of b) → ⊥) → EndsNode (numbers_of (focus_of s.main).floors) (levels m (point_of b))
beats_none m s a b fit at leaf positive none =
    let n = focus_of s.main in
    let node = open_node m s fit at in
    let e : point_of a ≡ fixed_point n.store = ap point_of leaf.is ∙ point_is n.store in
    let P : Point → Type 0 = λ p. IsBetter m p (point_of b) → ⊥ in
    ends_leaf m n.store n.floors (point_of b) (λ i lt. (node.store.parts i lt).ordered) leaf.fixed (goals_known m n.store fit.of.flat node.store.wide) node.floors (open_raised m s fit at) positive (subst P e none)

best_positive : (m : FlatModel) (s : State) (b : Numbers) → s.best ≡ Some b → IsFit m s → pos 0 <ℤ b.denominator
best_positive m s b e fit =
    let best : IfSome s.best (IsBestOf m) = fit.of.best in
    let some : IsBestOf m b = rw e at best in
    let least = some.fit.least in
    omega (arith, ints)

-- the best stays, since the point is no better
pub reached_before : (m : FlatModel) (s : State) (a : Numbers) → IsFit m s → IsAtOpen s → IsSolvedLeaf m (focus_of s.main).store a → (IfSome s.best (λ b. IsBetter m (point_of a) (point_of b)) → ⊥) → IsReached m s s
reached_before m s a fit at leaf none = record { at = at; same = refl; beats = by_best s.best refl none }
  where
    by_best : (best : Option Numbers) → s.best ≡ best → (IfSome best (λ b. IsBetter m (point_of a) (point_of b)) → ⊥) → BeatsBest m (focus_of s.main).floors best
    by_best None e none = absurd (none tt)
    by_best (Some b) e none = beats_none m s a b fit at leaf (best_positive m s b e fit) none

-- the point is the best
pub reached_after : (m : FlatModel) (s : State) (a : Numbers) → IsFit m s → IsAtOpen s → IsSolvedLeaf m (focus_of s.main).store a → IsReached m s (after m s (line.Sol (pos 1) a.values))
reached_after m s a fit at leaf =
    let d : a.denominator ≡ pos 1 = ap (λ (n : Numbers). n.denominator) leaf.is in
    let same : a ≡ record { denominator = pos 1; values = a.values } = leaf.is ∙ ap (λ (vs : List ℤ). record { denominator = pos 1; values = vs }) (sym (ap (λ (n : Numbers). n.values) leaf.is)) in
    let ends = beats_none m s a a fit at leaf (rw d (omega (arith, ints))) (better_irrefl m.goals (point_of a)) in
    let P : Numbers → Type 0 = λ n. EndsNode (numbers_of (focus_of s.main).floors) (levels m (point_of n)) in
    record {
      at = record { going = record { begun = at.going.begun; running = at.going.running }; is_open = at.is_open };
      same = refl;
      beats = subst P same ends;
    }

-- ---- verdicts

values_hold : (goals : List Goal) (a : Point) → a.denominator ≡ pos 1 → HasValuesBy goals a (whole_values goals a)
values_hold [] a one = tt
values_hold (g ∷ gs) a one = (rw one refl, values_hold gs a one)

pub optimal_end : (m : FlatModel) (s : State) (b : Numbers) (values : List Frac) → IsFit m s → s.best ≡ Some b → (AsksForAny m → s.best ≡ None) → IsRefuted s.main → map parts_of values ≡ whole_values m.goals (point_of b) → LawfulVerdict m s (Optimal values)
optimal_end m s b values fit e any refuted is =
    let whole : IfSome (Some b) (λ b. b.denominator ≡ pos 1) = rw e at fit.whole in
    let attains : HasValues m (point_of b) (map parts_of values) = rw is (values_hold m.goals (point_of b) whole) in
    (λ asks. let none = any asks in absurd (cc), rw e attains, refuted)

pub infeasible_end : (m : FlatModel) (s : State) → s.best ≡ None → IsRefuted s.main → LawfulVerdict m s Infeasible
infeasible_end m s e refuted = (e, refuted)

pub satisfied_end : (m : FlatModel) (s : State) → AsksForAny m → IsSome s.best → LawfulVerdict m s Satisfied
satisfied_end m s asks some = (asks, by_best s.best some)
  where
    by_best : (best : Option Numbers) → IsSome best → MatchOption best ⊥ (λ b. Unit {0})
    by_best None some = absurd (cc)
    by_best (Some b) some = tt

-- ---- a leaf that fails a constraint

some_at : (xs : List Constraint) (k : ℕ) → k < length xs → (c : Constraint) × (slice_get xs k ≡ Some c)
some_at [] k lt = absurd (omega arith)
some_at (x ∷ xs) zero lt = (x, refl)
some_at (x ∷ xs) (suc k) lt = some_at xs k (omega arith)

pub violated_at : (m : FlatModel) (s : State) (a : Numbers) (k : ℕ) → IsFit m s → IsAtOpen s → AreAllFixed (focus_of s.main).store → a ≡ record { denominator = pos 1; values = first_values (focus_of s.main).store } → FailsConstraint m a k → IsViolated m (focus_of s.main).store k
violated_at m s a k fit at fixed is fails =
    let some = some_at m.constraints k fails.known in
    let e : point_of a ≡ fixed_point (focus_of s.main).store = ap point_of is ∙ point_is (focus_of s.main).store in
    let P : Point → Type 0 = λ p. Sat some.0.form p → ⊥ in
    violated_leaf m (focus_of s.main).store k some.0 fit.of.flat (store_of m s fit at) fixed some.1 (subst P e (fails.fails some.0 some.1))

-- ---- sizes

pub store_few : (m : FlatModel) (s : State) → IsFit m s → IsAtOpen s → length (focus_of s.main).store < 2 ^ 32
store_few m s fit at =
    let wide = (store_of m s fit at).wide in
    let few = fit.of.flat.vars.few in
    omega arith
