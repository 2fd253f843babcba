-- The stores of a model: the declared one, and what narrowing makes of one.
use Rattle.std.proofs.Common.{◌≡◌, ℕ, zero, suc, ◌<◌, Bool, true, false, cond, List, [], ◌∷◌, length, get_or, refl, arith, ◌∙◌, inl, inr, get_or-set_same, get_or-set_other}
use Rattle.std.specs.Prelude.{◌≢◌, ◌≤◌, ◌^◌, ◌↔◌, ℤ, pos, ◌≤ℤ◌, int_le, All, IsTrue, unsigned_abs}
use Rattle.std.proofs.lemmas.Bool.{cases_eq}
use Rattle.std.proofs.lemmas.Int.{ints}
use Rattle.std.proofs.lemmas.List.{length-set, length-map}
use Rattle.std.proofs.Math.ListN.{get_or-map}
use Rattle.std.proofs.lemmas.List.Elements.{All-filter}
use Rattle.sm_kinds.specs.declared.literal.Literal.{Literal}
use Rattle.sm_kinds.specs.declared.var.Var.{Var}
use Rattle.sm_kinds.specs.declared.var.VarKind.{VarKind}
use Rattle.sm_kinds.specs.declared.var.VarKind.TheVariants.{Set, Int, Real}
use Rattle.sm_kinds.specs.Literals.{passes}
use Rattle.sm_flat.specs.Limits.{IsFlat}
use Rattle.sm_kinds.specs.Vars.{IsDomain}
use Rattle.sm_flat.specs.Models.{FlatModel}
use Rattle.sm_kinds.specs.Vars.{IsOneOf, IsBetween, IsMultiple, IsRange, LiesIn, var_at, no_var}
use Rattle.sm_kinds.specs.Points.{Point}
use Rattle.sm_flat.specs.Solutions.{Fits}
use Rattle.sm_store.specs.Stores.{Extent, no_extent, extent_at, base_of, extent_of, declared, In, range, kept_range, kept, narrowed, narrow, Tightens, IsPartOf, IsStoreOf}
use Rattle.sm_store.proofs.Ranges.{all_none, all_two, cut_is}
use Rattle.sm_store.proofs.Orders.{ordered_kept, domain_ordered}

-- a number between two that lie in a range is in it
between_within : (ds : List ℤ) (lo hi x : ℤ) → IsBetween lo (pos 1) ds → IsBetween hi (pos 1) ds → lo ≤ℤ x → x ≤ℤ hi → IsBetween x (pos 1) ds
between_within [] lo hi x first second from to = first
between_within (d ∷ []) lo hi x first second from to = first
between_within (d ∷ e ∷ ds) lo hi x first second from to = let one = first.0 in let two = second.1 in (omega (arith, ints), omega (arith, ints))

whole : (x : ℤ) → IsMultiple x (pos 1)
whole x = (x, omega (arith, ints))

within_range : (ds : List ℤ) (lo hi x y : ℤ) → LiesIn Int ds lo (pos 1) → LiesIn Int ds hi (pos 1) → lo ≤ℤ x → y ≤ℤ hi → All (λ z. LiesIn Int ds z (pos 1)) (range x y)
within_range ds lo hi x y first second from to = cases (int_le x y) refl
  where
    cases : (c : Bool) → int_le x y ≡ c → All (λ z. LiesIn Int ds z (pos 1)) (cond c (x ∷ y ∷ []) [])
    cases true e =
        let le : x ≤ℤ y = grind (arith, ints) in
        all_two (λ z. LiesIn Int ds z (pos 1)) x y
        (between_within ds lo hi x first.0 second.0 from (omega (arith, ints, le)), whole x)
        (between_within ds lo hi y first.0 second.0 (omega (arith, ints, le)) to, whole y)
    cases false e = all_none (λ z. LiesIn Int ds z (pos 1))

within_kept_range : (l : Literal) (ds values : List ℤ) → All (λ z. LiesIn Int ds z (pos 1)) values → All (λ z. LiesIn Int ds z (pos 1)) (kept_range l values)
within_kept_range l ds [] h = h
within_kept_range l ds (v ∷ []) h = all_none (λ z. LiesIn Int ds z (pos 1))
within_kept_range l ds (lo ∷ hi ∷ vs) h =
    let c = cut_is l.test l.bound lo hi in
    rw (c.2) (within_range ds lo hi c.0 c.1 (h 0 (pos 0) (omega arith)) (h 1 (pos 0) (omega arith)) c.3 c.4)

all_kept : (kind : VarKind) (l : Literal) (ds values : List ℤ) → All (λ x. LiesIn kind ds x (pos 1)) values → All (λ x. LiesIn kind ds x (pos 1)) (kept kind l values)
all_kept Set l ds values h = All-filter (passes l) (λ x. LiesIn Set ds x (pos 1)) values h
all_kept Int l ds values h = within_kept_range l ds values h
all_kept Real l ds values h = h

all_kept_as : (kind other : VarKind) (l : Literal) (ds values : List ℤ) → kind ≡ other → All (λ x. LiesIn other ds x (pos 1)) values → All (λ x. LiesIn other ds x (pos 1)) (kept kind l values)
all_kept_as kind other l ds values same h = rw same (all_kept other l ds values h)

pub part_narrowed : (v : Var) (l : Literal) (e : Extent) → IsPartOf v e → IsPartOf v (narrowed l e)
part_narrowed v l e part = record {
  kind = part.kind;
  base = part.base;
  ordered = ordered_kept e.kind l e.values part.ordered;
  within = all_kept_as e.kind v.kind l v.values e.values part.kind part.within;
}

pub store_narrowed : (m : FlatModel) (store : List Extent) (l : Literal) → IsStoreOf m store → IsStoreOf m (narrow store l)
store_narrowed m store l of = record {
  wide = length-set store l.var (narrowed l (extent_at store l.var)) ∙ of.wide;
  parts = λ i lt.
      let e = narrowed l (extent_at store l.var) in
      let lt' : i < length store = omega (arith, length-set store l.var e) in
      elim (cases_eq i l.var) [
        | inl same ↦
            let lt'' : l.var < length store = omega arith in
            rw (same, get_or-set_same store l.var e no_extent lt'') (part_narrowed (var_at m.vars l.var) l (extent_at store l.var) (of.parts l.var lt''))
        | inr other ↦ rw (get_or-set_other store l.var i e no_extent other) (of.parts i lt')
      ];
}

pub one_at : (values : List ℤ) (i : ℕ) (d : ℤ) → i < length values → IsOneOf (get_or values i d) (pos 1) values
one_at [] i d lt = absurd (omega arith)
one_at (v ∷ vs) zero d lt = inl (omega (arith, ints))
one_at (v ∷ vs) (suc i) d lt = inr (one_at vs i d (omega arith))

-- each of these numbers is one of them
one_of_all : (values : List ℤ) → All (λ x. IsOneOf x (pos 1) values) values
one_of_all values i d lt = one_at values i d lt

both_ends : (values : List ℤ) → IsRange values → All (λ x. IsBetween x (pos 1) values) values
both_ends [] domain = all_none (λ x. IsBetween x (pos 1) [])
both_ends (v ∷ []) domain = let two = domain.two in absurd (omega (arith, two))
both_ends (lo ∷ hi ∷ []) domain =
    let le : lo ≤ℤ hi = domain.ordered in
    all_two (λ x. IsBetween x (pos 1) (lo ∷ hi ∷ [])) lo hi (omega (arith, ints), omega (arith, ints, le)) (omega (arith, ints, le), omega (arith, ints))
both_ends (lo ∷ hi ∷ v ∷ vs) domain = let two = domain.two in absurd (omega (arith, two))

within_declared : (kind : VarKind) (values : List ℤ) → IsDomain kind values → All (λ x. LiesIn kind values x (pos 1)) values
within_declared Set values domain = one_of_all values
within_declared Int values domain = λ i d lt. (both_ends values domain i d lt, whole (get_or values i d))
within_declared Real values domain = both_ends values domain

pub extent_declared : (vars : List Var) (i : ℕ) → extent_at (declared vars) i ≡ extent_of (var_at vars i)
unfolding base_of
extent_declared vars i = get_or-map extent_of vars i no_var

pub store_declared : (m : FlatModel) → IsFlat m → IsStoreOf m (declared m.vars)
store_declared m flat = record {
  wide = length-map m.vars extent_of;
  parts = λ i lt.
      let lt' : i < length m.vars = omega (arith, length-map m.vars extent_of) in
      let v = var_at m.vars i in
      let domain : IsDomain v.kind v.values = flat.vars.each i no_var lt' in
      rw (extent_declared m.vars i) (record { kind = refl; base = refl; ordered = domain_ordered v.kind v.values domain; within = within_declared v.kind v.values domain });
}

pub in_declared : (m : FlatModel) (a : Point) → Fits m a → In a (declared m.vars)
in_declared m a fits i lt = rw (extent_declared m.vars i) (fits.lies i (omega (arith, length-map m.vars extent_of)))

-- a known literal with a small bound tightens a store where it changes the domain
pub tightens_where : (store : List Extent) (l : Literal) (r : Bool) → l.var < length store → unsigned_abs l.bound ≤ 2 ^ 32 → IsTrue r ↔ ((narrowed l (extent_at store l.var)).values ≢ (extent_at store l.var).values) → IsTrue r ↔ Tightens store l
tightens_where store l r lt small h = (λ yes. record { known = lt; bounded = small; changes = h.0 yes }, λ t. h.1 t.changes)
