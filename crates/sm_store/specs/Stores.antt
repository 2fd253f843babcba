-- Stores: for each variable the values that it may still have.
use Rattle.std.specs.Prelude.{◌≡◌, ◌≢◌, ℕ, ◌+◌, ◌<◌, ◌≤◌, ◌-◌, ◌^◌, List, [], ◌∷◌, length, map, filter, ℤ, pos, ◌+ℤ◌, ◌-ℤ◌, ◌<ℤ◌, ◌≤ℤ◌, ◌↔◌, int_le, All, AllPairs, unsigned_abs, Bool, true, false, if◌then◌else◌, Option, Some, None, slice_index_or, slice_set}
use Rattle.std.specs.Int.{int_max, int_min, int_rem_euclid}
use Rattle.std.specs.Ordering.{int_eq}
use Rattle.sm_kinds.specs.declared.var.Var.{Var}
use Rattle.sm_kinds.specs.declared.var.VarKind.{VarKind}
use Rattle.sm_kinds.specs.declared.var.VarKind.TheVariants.{Set, Int, Real}
use Rattle.sm_kinds.specs.declared.literal.Test.{Test}
use Rattle.sm_kinds.specs.declared.literal.Test.TheVariants.{AtMost, AtLeast, Equal, Unequal}
use Rattle.sm_kinds.specs.declared.literal.Literal.{Literal}
use Rattle.sm_lanes.specs.Bits.{bit_of}
use Rattle.sm_flat.specs.Models.{FlatModel}
use Rattle.sm_kinds.specs.Vars.{LiesIn, var_at, first_of}
use Rattle.sm_kinds.specs.Points.{Point}
use Rattle.sm_kinds.specs.Literals.{passes, complement}

-- the values that one variable may still have, as its kind reads these numbers, and the value of the first place of its words
pub record Extent : Type 0 where
  pub kind : VarKind
  pub values : List ℤ
  pub base : ℤ

abbrev pub no_extent : Extent
no_extent = record { kind = Set; values = []; base = pos 0 }

abbrev pub extent_at : List Extent → ℕ → Extent
extent_at store i = slice_index_or store i no_extent

-- variable i has a value of the extent
abbrev pub Lies : Point → ℕ → Extent → Type 0
Lies a i e = LiesIn e.kind e.values (a.numerator i) a.denominator

-- each variable has a value of its domain
abbrev pub In : Point → List Extent → Type 0
In a store = (i : ℕ) → i < length store → Lies a i (extent_at store i)

-- the greatest multiple of 64 at or below the number
abbrev pub base_below : ℤ → ℤ
base_below v = v -ℤ int_rem_euclid v (pos 64)

-- the base of declared values: that of the least
unfoldable pub base_of : List ℤ → ℤ
base_of values = base_below (first_of values)

abbrev pub extent_of : Var → Extent
extent_of v = record { kind = v.kind; values = v.values; base = base_of v.values }

-- the store of the declared domains
abbrev pub declared : List Var → List Extent
declared vars = map extent_of vars

-- ---- narrowing

-- the two ends of a range of whole numbers, or no number where they cross
abbrev pub range : ℤ → ℤ → List ℤ
range least greatest = if int_le least greatest then least ∷ greatest ∷ [] else []

-- what a test leaves of a range: its ends move, and a number is taken out of it only at an end
abbrev pub cut_range : Test → ℤ → ℤ → ℤ → List ℤ
cut_range AtMost bound least greatest = range least (int_min greatest bound)
cut_range AtLeast bound least greatest = range (int_max least bound) greatest
cut_range Equal bound least greatest = range (int_max least bound) (int_min greatest bound)
cut_range Unequal bound least greatest = if int_eq bound least then range (least +ℤ pos 1) greatest else (if int_eq bound greatest then range least (greatest -ℤ pos 1) else range least greatest)

abbrev pub kept_range : Literal → List ℤ → List ℤ
kept_range l [] = []
kept_range l (v ∷ []) = []
kept_range l (least ∷ greatest ∷ vs) = cut_range l.test l.bound least greatest

-- the numbers of an extent of this kind once the literal is true: of a set those of which it is true, of a range the ends of
-- what it leaves; nothing narrows a real variable
abbrev pub kept : VarKind → Literal → List ℤ → List ℤ
kept Set l values = filter (passes l) values
kept Int l values = kept_range l values
kept Real l values = values

abbrev pub narrowed : Literal → Extent → Extent
narrowed l e = record e { values = kept e.kind l e.values }

-- the store with what the literal leaves of its variable
abbrev pub narrow : List Extent → Literal → List Extent
narrow store l = slice_set store l.var (narrowed l (extent_at store l.var))

-- the literal makes the domain of its variable another one
pub record Changes (store : List Extent) (l : Literal) : Type 0 where
  pub changes : (narrowed l (extent_at store l.var)).values ≢ (extent_at store l.var).values

-- the literal is of a variable of the store, leaves a value of it, and changes its domain
pub record Narrows (store : List Extent) (l : Literal) : Type 0 where
  pub known : l.var < length store
  pub bounded : unsigned_abs l.bound ≤ 2 ^ 32
  pub leaves : 0 < length (narrowed l (extent_at store l.var)).values
  pub changes : (narrowed l (extent_at store l.var)).values ≢ (extent_at store l.var).values

-- the literal is of a variable of the store, has a bound within 2^32, and makes the variable's domain another one, which a real
-- variable's never becomes
pub record Tightens (store : List Extent) (l : Literal) : Type 0 where
  pub known : l.var < length store
  pub bounded : unsigned_abs l.bound ≤ 2 ^ 32
  pub changes : (narrowed l (extent_at store l.var)).values ≢ (extent_at store l.var).values

-- each literal changes the store in its turn
abbrev pub TightensEach : List Extent → List Literal → Type 0
TightensEach store [] = Unit {0}
TightensEach store (l ∷ ls) = Tightens store l × TightensEach (narrow store l) ls

-- the store narrowed by the literals, one after the other
abbrev pub narrow_all : List Extent → List Literal → List Extent
narrow_all store [] = store
narrow_all store (l ∷ ls) = narrow_all (narrow store l) ls

abbrev pub is_empty : List ℤ → Bool
is_empty [] = true
is_empty (v ∷ vs) = false

-- what a literal is where its complement leaves nothing, and where it leaves nothing itself
abbrev pub agreed : Bool → Bool → Option Bool
agreed true none = Some true
agreed false true = Some false
agreed false false = None

-- what the literal is for all values of the extent, where there is one and all agree
abbrev pub truth_in : Literal → Extent → Option Bool
truth_in l e = if is_empty e.values then None else agreed (is_empty (narrowed (complement l) e).values) (is_empty (narrowed l e).values)

-- what the literal is for all values that its variable may have
abbrev pub truth_of : List Extent → Literal → Option Bool
truth_of store l = truth_in l (extent_at store l.var)

-- ---- the ends of a domain, and how many values it has

-- the two ends of a range, or none
abbrev pub AreEnds : List ℤ → Type 0
AreEnds [] = Unit {0}
AreEnds (v ∷ []) = ⊥
AreEnds (least ∷ greatest ∷ []) = least ≤ℤ greatest
AreEnds (least ∷ greatest ∷ v ∷ vs) = ⊥

-- numbers as a kind keeps them: those of a set rise; a range has two ends that don't cross, or no number
abbrev pub InOrder : VarKind → List ℤ → Type 0
InOrder Set values = AllPairs (λ (v w : ℤ). v <ℤ w) values
InOrder Int values = AreEnds values
InOrder Real values = AreEnds values

-- the numbers are in the order of their kind, and within 2^31
pub record IsOrdered (kind : VarKind) (values : List ℤ) : Type 0 where
  pub order : InOrder kind values
  pub small : All (λ v. unsigned_abs v ≤ 2 ^ 31) values

abbrev pub least_of : Extent → ℤ
least_of e = slice_index_or e.values 0 (pos 0)

abbrev pub greatest_of : Extent → ℤ
greatest_of e = slice_index_or e.values (length e.values - 1) (pos 0)

abbrev pub one_value : List ℤ → Option ℤ
one_value [] = None
one_value (v ∷ []) = Some v
one_value (v ∷ w ∷ vs) = None

-- the one value of a range whose ends are the same
abbrev pub one_end : List ℤ → Option ℤ
one_end [] = None
one_end (v ∷ []) = None
one_end (least ∷ greatest ∷ vs) = if int_eq least greatest then Some least else None

-- the one value that an extent has; a real variable has none by its ends alone
abbrev pub fixed_value : VarKind → List ℤ → Option ℤ
fixed_value Set values = one_value values
fixed_value Int values = one_end values
fixed_value Real values = None

-- how many whole numbers lie from one end to the other
abbrev pub range_size : List ℤ → ℕ
range_size [] = 0
range_size (v ∷ []) = 0
range_size (least ∷ greatest ∷ vs) = unsigned_abs (greatest -ℤ least) + 1

-- how many values an extent has; those of a real variable aren't counted
abbrev pub size_in : VarKind → List ℤ → ℕ
size_in Set values = length values
size_in Int values = range_size values
size_in Real values = 0

-- the one value of a variable
abbrev pub fixed_at : List Extent → ℕ → Option ℤ
fixed_at store i = fixed_value (extent_at store i).kind (extent_at store i).values

-- the least value of each variable, which is its value where it has one alone
abbrev pub fixed_point : List Extent → Point
fixed_point store = record { denominator = pos 1; numerator = λ i. least_of (extent_at store i) }

-- ---- the words of a set of values

-- place p of the words is 1 exactly where base + p is one of the values
pub record AreWordsOf (e : Extent) (words : List ℕ) : Type 0 where
  pub few : length words ≤ 65
  pub places : (p : ℕ) → (bit_of words p ≡ 1) ↔ LiesIn e.kind e.values (e.base +ℤ pos p) (pos 1)

-- ---- the stores of a model

-- the extent has the variable's kind, the base of its declared values, and values of its declared domain
pub record IsPartOf (v : Var) (e : Extent) : Type 0 where
  pub kind : e.kind ≡ v.kind
  pub base : e.base ≡ base_of v.values
  pub ordered : IsOrdered e.kind e.values
  pub within : All (λ x. LiesIn v.kind v.values x (pos 1)) e.values

-- the store has a domain for each variable of the model, a part of the declared one
pub record IsStoreOf (m : FlatModel) (store : List Extent) : Type 0 where
  pub wide : length store ≡ length m.vars
  pub parts : (i : ℕ) → i < length store → IsPartOf (var_at m.vars i) (extent_at store i)
