-- How a store's block of numbers is read. Each variable has a part of it: three cells, which have its least and its greatest
-- value and how many values it has, and then, of a set variable, the words of its values.
use Rattle.std.specs.Prelude.{◌≡◌, ◌≢◌, ℕ, zero, suc, ◌+◌, ◌<◌, ◌≤◌, ◌*◌, ◌^◌, ◌==◌, ◌↔◌, List, [], ◌∷◌, length, map, drop, slice_index, slice_index_or, ℤ, pos, ◌-◌, ◌+ℤ◌, ◌-ℤ◌, ◌<ℤ◌, ◌≤ℤ◌, int_le, int_lt, Any, unsigned_abs, Bool, true, false, not, ◌&&◌, ◌||◌, if◌then◌else◌, IsTrue}
use Rattle.std.specs.Ordering.{int_eq}
use Rattle.sm_kinds.specs.declared.literal.Test.{Test}
use Rattle.sm_kinds.specs.declared.literal.Test.TheVariants.{AtMost, AtLeast, Equal, Unequal}
use Rattle.std.specs.List.{between}
use Rattle.sm_kinds.specs.Vars.{first_of, last_of}
use Rattle.sm_kinds.specs.declared.var.VarKind.{VarKind}
use Rattle.sm_kinds.specs.declared.var.VarKind.TheVariants.{Set, Int, Real}
use Rattle.sm_lanes.specs.Bits.{bit_of}
use Rattle.sm_store.specs.declared.summary.Summary.{Summary}
use Rattle.sm_store.specs.declared.place.Place.{Place}
use Rattle.sm_store.specs.Stores.{Extent, range, IsOrdered, size_in}

-- the number that a cell holds
abbrev pub value_in : ℕ → ℤ
value_in cell = pos cell -ℤ pos (2 ^ 31)

-- the values of the places that pass, of n places from `at` on
abbrev pub listed : (ℕ → Bool) → ℤ → ℕ → ℕ → List ℤ
listed test base at zero = []
listed test base at (suc n) = if test at then (base +ℤ pos at) ∷ listed test base (at + 1) n else listed test base (at + 1) n

-- the place is 1
abbrev pub is_one : List ℕ → ℕ → Bool
is_one words p = bit_of words p == 1

-- the values of the places that are 1
abbrev pub values_of : ℤ → List ℕ → List ℤ
values_of base words = listed (is_one words) base 0 (64 * length words)

-- the numbers of a variable, as its part has them
abbrev pub values_in : VarKind → ℤ → List ℕ → List ℤ
values_in Set base part = values_of base (drop 3 part)
values_in Int base part = range (value_in (slice_index part 0)) (value_in (slice_index part 1))
values_in Real base part = range (value_in (slice_index part 0)) (value_in (slice_index part 1))

-- what the cells of a part say
abbrev pub summary_in : List ℕ → Summary
summary_in part = record { least = value_in (slice_index part 0); greatest = value_in (slice_index part 1); size = slice_index part 2 }

-- the ends are those of the values, of which there is one
pub record HasEnds (values : List ℤ) (s : Summary) : Type 0 where
  pub least : slice_index_or values 0 (pos 0) ≡ s.least
  pub greatest : slice_index_or values (length values - 1) (pos 0) ≡ s.greatest
  pub order : s.least ≤ℤ s.greatest

-- the ends of no value: they cross
pub record HasNoEnds (s : Summary) : Type 0 where
  pub least : s.least ≡ pos 1
  pub greatest : s.greatest ≡ pos 0

pub record IsSummary (kind : VarKind) (values : List ℤ) (s : Summary) : Type 0 where
  pub some : 0 < length values → HasEnds values s
  pub none : length values ≡ 0 → HasNoEnds s
  pub size : s.size ≡ size_in kind values

pub record AreCells (part : List ℕ) : Type 0 where
  pub long : 3 ≤ length part
  pub first : slice_index part 0 ≤ 2 ^ 32
  pub second : slice_index part 1 ≤ 2 ^ 32

-- the cells of a part agree with its values, and it has at most 65 words
pub record IsPart (kind : VarKind) (base : ℤ) (part : List ℕ) : Type 0 where
  pub cells : AreCells part
  pub few : length part ≤ 68
  pub near : unsigned_abs base ≤ 2 ^ 32
  pub ordered : IsOrdered kind (values_in kind base part)
  pub summary : IsSummary kind (values_in kind base part) (summary_in part)

abbrev pub extent_in : VarKind → ℤ → List ℕ → Extent
extent_in kind base part = record { kind = kind; values = values_in kind base part; base = base }

-- ---- the parts of all variables

abbrev pub no_place : Place
no_place = record { kind = Set; base = pos 0; start = 0; end = 0 }

abbrev pub place_at : List Place → ℕ → Place
place_at places i = slice_index_or places i no_place

abbrev pub part_at : List ℕ → Place → List ℕ
part_at block p = between p.start p.end block

abbrev pub extent_there : List ℕ → Place → Extent
extent_there block p = extent_in p.kind p.base (part_at block p)

abbrev pub extents : List Place → List ℕ → List Extent
extents places block = map (extent_there block) places

pub record IsPlaced (block : List ℕ) (p : Place) : Type 0 where
  pub room : p.end ≤ length block
  pub part : IsPart p.kind p.base (part_at block p)

-- each part ends before the next begins
pub record AreApart (places : List Place) : Type 0 where
  pub apart : (i j : ℕ) → i < j → j < length places → (place_at places i).end ≤ (place_at places j).start

-- each place has its part of the block, and none has numbers of another
pub record AreParts (places : List Place) (block : List ℕ) : Type 0 where
  pub each : (i : ℕ) → i < length places → IsPlaced block (place_at places i)
  pub apart : AreApart places

-- the parts of the places, and whether some variable has no value
pub record IsBlock (places : List Place) (block : List ℕ) (is_empty : Bool) : Type 0 where
  pub parts : AreParts places block
  pub empty : IsTrue is_empty ↔ Any (λ e. e.values ≡ []) (extents places block)

-- what a store shows of its block, and what its block keeps; the crates above see neither's parts
unfoldable pub shown : List Place → List ℕ → List Extent
shown places block = extents places block

unfoldable pub IsKept : List Place → List ℕ → Bool → Type 0
IsKept places block is_empty = IsBlock places block is_empty

-- ---- what a test leaves of a set, by its ends and by whether its bound is a value

abbrev pub leaves_some : Test → ℤ → Summary → Bool → Bool
leaves_some AtMost bound s has = int_le s.least s.greatest && int_le s.least bound
leaves_some AtLeast bound s has = int_le s.least s.greatest && int_le bound s.greatest
leaves_some Equal bound s has = has
leaves_some Unequal bound s has = int_lt s.least s.greatest || (int_eq s.least s.greatest && not (int_eq s.least bound))

abbrev pub takes_some : Test → ℤ → Summary → Bool → Bool
takes_some AtMost bound s has = int_le s.least s.greatest && int_lt bound s.greatest
takes_some AtLeast bound s has = int_le s.least s.greatest && int_lt s.least bound
takes_some Equal bound s has = int_lt s.least s.greatest || (int_eq s.least s.greatest && not (int_eq s.least bound))
takes_some Unequal bound s has = has

-- each place is 1 where it was, and the test passes there
pub record KeepsPassing (pass : ℤ → Bool) (base : ℤ) (old new : List ℕ) : Type 0 where
  pub long : length new ≡ length old
  pub places : (p : ℕ) → p < 64 * length old → is_one new p ≡ (is_one old p && pass (base +ℤ pos p))

-- place q is 1 besides what was
pub record HasMore (old new : List ℕ) (q : ℕ) : Type 0 where
  pub long : length new ≡ length old
  pub there : is_one new q ≡ true
  pub others : (p : ℕ) → p ≢ q → is_one new p ≡ is_one old p

-- the words are 0, and have a place for each of the numbers
pub record AreWide (words : List ℕ) (base : ℤ) (values : List ℤ) : Type 0 where
  pub clean : (p : ℕ) → is_one words p ≡ false
  pub low : base ≤ℤ first_of values
  pub high : last_of values <ℤ (base +ℤ pos (64 * length words))
