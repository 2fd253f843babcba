-- The cells of a part against its values.
use Rattle.std.proofs.Common.{◌≡◌, ◌≢◌, ℕ, ◌+◌, ◌-◌, ◌*◌, ◌^◌, ◌<◌, ◌≤◌, ◌⊎◌, Bool, true, false, Some, None, List, [], ◌∷◌, ◌++◌, length, get_or, take, drop, refl, arith, ap, ◌∙◌, inl, inr}
use Rattle.std.specs.Prelude.{ℤ, pos, ◌<ℤ◌, ◌≤ℤ◌, ◌+ℤ◌, ◌-ℤ◌, int_le, unsigned_abs, filter}
use Rattle.std.specs.Ordering.{int_eq}
use Rattle.std.proofs.lemmas.Int.{ints}
use Rattle.std.proofs.lemmas.Bool.Decides.{Decides-int_eq}
use Rattle.std.proofs.lemmas.List.{append-nil, length-drop, length-take-le, drop_at, drop_all}
use Rattle.sm_kinds.specs.declared.literal.Literal.{Literal}
use Rattle.sm_kinds.specs.declared.var.VarKind.{VarKind}
use Rattle.sm_kinds.specs.declared.var.VarKind.TheVariants.{Set, Int, Real}
use Rattle.sm_kinds.specs.Literals.{passes}
use Rattle.sm_store.proofs.Listed.{listed_filter}
use Rattle.sm_store.proofs.WordPlaces.{one_true, true_one, one_value as one_place}
use borrow.Rule.Slice.PartMut.{put_mid}
use Rattle.sm_store.specs.declared.summary.Summary.{Summary}
use Rattle.sm_store.specs.Stores.{AreWordsOf, IsOrdered, range, kept, fixed_value, size_in}
use Rattle.sm_store.proofs.Orders.{ordered_kept}
use Rattle.sm_store.specs.Blocks.{is_one, listed, values_of, summary_in, AreCells, IsSummary, IsPart, KeepsPassing, extent_in}

-- ---- what the cells say

-- where the ends don't cross there is a value, and they are the ends
pub crossing : (kind : VarKind) (vs : List ℤ) (s : Summary) → IsSummary kind vs s → s.greatest <ℤ s.least → vs ≡ []
crossing kind [] s summary cross = refl
crossing kind (v ∷ vs) s summary cross = let order = (summary.some (omega arith)).order in absurd (omega (arith, ints))

pub not_crossing : (kind : VarKind) (vs : List ℤ) (s : Summary) → IsSummary kind vs s → s.least ≤ℤ s.greatest → 0 < length vs
not_crossing kind [] s summary order =
    let none = summary.none refl in
    let low = none.least in
    let high = none.greatest in
    absurd (omega (arith, ints))
not_crossing kind (v ∷ vs) s summary order = omega arith

no_other : (a b : ℤ) → int_eq a b ≡ true → a ≡ b
no_other a b = (Decides-int_eq a b).0

size_one : (lo hi : ℤ) → lo ≤ℤ hi → unsigned_abs (hi -ℤ lo) + 1 ≡ 1 → int_eq lo hi ≡ true
size_one lo hi order e = (Decides-int_eq lo hi).1 (omega (arith, ints))

size_more : (lo hi : ℤ) → unsigned_abs (hi -ℤ lo) + 1 ≢ 1 → int_eq lo hi ≡ false
size_more lo hi other = cases (int_eq lo hi) refl
  where
    cases : (c : Bool) → int_eq lo hi ≡ c → c ≡ false
    cases true e = let same = no_other lo hi e in absurd (other (omega (arith, ints)))
    cases false e = refl

-- a size of 1 fixes the value, and no other size does
pub fixed_one : (kind : VarKind) (vs : List ℤ) → IsOrdered kind vs → size_in kind vs ≡ 1 → fixed_value kind vs ≡ Some (get_or vs 0 (pos 0))
fixed_one Set [] ordered e = absurd (omega arith)
fixed_one Set (v ∷ []) ordered e = refl
fixed_one Set (v ∷ w ∷ vs) ordered e = absurd (omega arith)
fixed_one Int [] ordered e = absurd (omega arith)
fixed_one Int (v ∷ []) ordered e = absurd (omega arith)
fixed_one Int (lo ∷ hi ∷ []) ordered e = rw (size_one lo hi ordered.order e) refl
fixed_one Int (lo ∷ hi ∷ v ∷ vs) ordered e = absurd ordered.order
fixed_one Real vs ordered e = absurd (omega arith)

pub fixed_none : (kind : VarKind) (vs : List ℤ) → size_in kind vs ≢ 1 → fixed_value kind vs ≡ None
fixed_none Set [] other = refl
fixed_none Set (v ∷ []) other = absurd (other refl)
fixed_none Set (v ∷ w ∷ vs) other = refl
fixed_none Int [] other = refl
fixed_none Int (v ∷ []) other = refl
fixed_none Int (lo ∷ hi ∷ vs) other = rw (size_more lo hi other) refl
fixed_none Real vs other = refl

-- ---- narrowing

pub kept_values : (l : Literal) (base : ℤ) (old new : List ℕ) → KeepsPassing (passes l) base old new → values_of base new ≡ filter (passes l) (values_of base old)
kept_values l base old new keeps =
    let long = keeps.long in
    ap (λ (n : ℕ). listed (is_one new) base 0 (64 * n)) long
    ∙ listed_filter (is_one old) (is_one new) (passes l) base 0 (64 * length old) (λ p low high. keeps.places p (omega arith))

-- the ends of values within 2^31 are
pub record AreSmall (s : Summary) : Type 0 where
  pub least : unsigned_abs s.least ≤ 2 ^ 31
  pub greatest : unsigned_abs s.greatest ≤ 2 ^ 31

pub small_ends : (kind : VarKind) (vs : List ℤ) (s : Summary) → IsOrdered kind vs → IsSummary kind vs s → AreSmall s
small_ends kind [] s ordered summary =
    let none = summary.none refl in
    let low = none.least in
    let high = none.greatest in
    record { least = rw low (omega arith); greatest = rw high (omega arith) }
small_ends kind (v ∷ vs) s ordered summary =
    let ends = summary.some (omega arith) in
    record {
      least = rw ends.least at (ordered.small 0 (pos 0) (omega arith));
      greatest = rw ends.greatest at (ordered.small (length (v ∷ vs) - 1) (pos 0) (omega arith));
    }

-- the ends of what a literal leaves are small
pub small_left : (kind : VarKind) (l : Literal) (vs : List ℤ) (s : Summary) → IsOrdered kind vs → IsSummary kind (kept kind l vs) s → AreSmall s
small_left kind l vs s ordered is = small_ends kind (kept kind l vs) s (ordered_kept kind l vs ordered) is

-- and so are those of what a literal leaves of a set's part
pub least_passing : (l : Literal) (base : ℤ) (part : List ℕ) (s : Summary) → IsPart Set base part → IsSummary Set (filter (passes l) (values_of base (drop 3 part))) s → unsigned_abs s.least ≤ 2 ^ 31
least_passing l base part s is left = (small_left Set l (values_of base (drop 3 part)) s is.ordered left).least

pub greatest_passing : (l : Literal) (base : ℤ) (part : List ℕ) (s : Summary) → IsPart Set base part → IsSummary Set (filter (passes l) (values_of base (drop 3 part))) s → unsigned_abs s.greatest ≤ 2 ^ 31
greatest_passing l base part s is left = (small_left Set l (values_of base (drop 3 part)) s is.ordered left).greatest

-- a part whose cells are those of its words
pub set_part : (base : ℤ) (old new : List ℕ) (s : Summary) → AreCells new → summary_in new ≡ s → drop 3 new ≡ drop 3 old → length new ≤ 68 → unsigned_abs base ≤ 2 ^ 32 → IsOrdered Set (values_of base (drop 3 old)) → IsSummary Set (values_of base (drop 3 old)) s → IsPart Set base new
set_part base old new s cells says words few near ordered summary = record {
  cells = cells;
  few = few;
  near = near;
  ordered = rw words ordered;
  summary = rw (words, says) summary;
}

pub range_summary : (a b : ℤ) (size : ℕ) → a ≤ℤ b → size ≡ unsigned_abs (b -ℤ a) + 1 → IsSummary Int (range a b) (record { least = a; greatest = b; size = size })
range_summary a b size order same =
    let ordered : int_le a b ≡ true = grind (arith, ints) in
    rw ordered (record { some = λ some. record { least = refl; greatest = refl; order = order }; none = λ none. absurd (omega arith); size = same })

-- ---- other lists

pub int_cases : (a b : ℤ) → (a ≡ b) ⊎ (a ≢ b)
int_cases a b = cases (int_eq a b) refl
  where
    cases : (c : Bool) → int_eq a b ≡ c → (a ≡ b) ⊎ (a ≢ b)
    cases true e = inl (no_other a b e)
    cases false e = inr (λ same. let t = (Decides-int_eq a b).1 same in absurd (cc))

list_cases : (xs ys : List ℤ) → (xs ≡ ys) ⊎ (xs ≢ ys)
list_cases [] [] = inl refl
list_cases [] (y ∷ ys) = inr (λ e. absurd (cc))
list_cases (x ∷ xs) [] = inr (λ e. absurd (cc))
list_cases (x ∷ xs) (y ∷ ys) = elim (int_cases x y) [
  | inl same ↦ elim (list_cases xs ys) [
    | inl alike ↦ inl (cc)
    | inr other ↦ inr (λ e. other (cc))
  ]
  | inr other ↦ inr (λ e. other (cc))
]

pub not_other : (xs ys : List ℤ) → (xs ≢ ys → ⊥) → xs ≡ ys
not_other xs ys h = elim (list_cases xs ys) [
  | inl same ↦ same
  | inr other ↦ absurd (h other)
]

-- ---- words

pub rest_put : (part new : List ℕ) → 3 ≤ length part → length new ≡ length part - 3 → drop 3 (put_mid 3 (length part - 3) part new) ≡ new
rest_put part new long same =
    drop_at (take 3 part) (new ++ drop (length part - 3) (drop 3 part)) 3 (length-take-le 3 part long)
    ∙ ap (λ (xs : List ℕ). new ++ xs) (drop_all (length part - 3) (drop 3 part) (omega (arith, length-drop 3 part)))
    ∙ append-nil new

pub words_shown : (base : ℤ) (part : List ℕ) → IsPart Set base part → AreWordsOf (extent_in Set base part) (drop 3 part)
words_shown base part is =
    let few = is.few in
    record {
      few = omega (arith, length-drop 3 part);
      places = λ p.
          let both = one_place (drop 3 part) base (base +ℤ pos p) p refl in
          (λ h. both.0 (one_true (drop 3 part) p h), λ h. true_one (drop 3 part) p (both.1 h));
    }
