-- Binders that turn like the wheels of a counter, the last one fastest.
use Rattle.std.specs.Prelude.{◌≡◌, ℕ, List, [], ◌∷◌, ◌++◌, map, ℤ, pos, ◌+ℤ◌, ◌≤ℤ◌, int_lt, All, Bool, true, false}
use Rattle.std.specs.List.{flat_map, list_any}
use Rattle.sm_meaning.specs.Scopes.{Tuple, with_number}
use Rattle.sm_meaning.specs.Tuples.{numbers_of, tuples}
use Rattle.sm_scopes.specs.declared.cases.Wheel.{Wheel}

-- the wheels as they stand
abbrev pub tuple_of : List Wheel → Tuple
tuple_of ws = map (λ (w : Wheel). (w.name.now, w.number)) ws

-- a binder with all its numbers
abbrev pub span : Wheel → List ℕ × List ℤ
span w = (w.name.now, numbers_of w.range)

-- the numbers to which the wheel turns from where it stands
abbrev pub numbers_behind : Wheel → List ℤ
numbers_behind w = numbers_of (record { least = w.number +ℤ pos 1; greatest = w.range.greatest })

-- the tuples to come, each behind what is bound already
abbrev pub behind : List Wheel → Tuple → List Tuple
behind [] b = []
behind (w ∷ ws) b = behind ws (with_number b w.name.now w.number) ++ flat_map (λ z. tuples (map span ws) (with_number b w.name.now z)) (numbers_behind w)

-- the wheel stands at a number of its range
pub record IsWheel (w : Wheel) : Type 0 where
  pub least : w.range.least ≤ℤ w.number
  pub greatest : w.number ≤ℤ w.range.greatest

-- where the wheels turn, the first of the tuples to come is what they show
abbrev pub Turns : Bool → List Tuple → List Wheel → Type 0
Turns true to_come ws = to_come ≡ tuple_of ws ∷ behind ws []
Turns false to_come ws = to_come ≡ []

-- ---- one wheel

-- the same binder at another number
pub record IsSameBinder (w v : Wheel) : Type 0 where
  pub name : v.name ≡ w.name
  pub range : v.range ≡ w.range
  pub fits : IsWheel v

-- the wheel turned by one
pub record Follows (w v : Wheel) : Type 0 where
  pub same : IsSameBinder w v
  pub next : numbers_behind w ≡ v.number ∷ numbers_behind v

-- the wheel at its least number
pub record IsFirst (w v : Wheel) : Type 0 where
  pub same : IsSameBinder w v
  pub first : numbers_of w.range ≡ v.number ∷ numbers_behind v

-- ---- all tuples of some wheels

-- the wheel stands at its least number
pub record IsAtFirst (w : Wheel) : Type 0 where
  pub first : w.number ≡ w.range.least

-- some range has no number
abbrev pub has_empty : List Wheel → Bool
has_empty ws = list_any (λ (w : Wheel). int_lt w.range.greatest w.range.least) ws

abbrev pub spans : List Wheel → List (List ℕ × List ℤ)
spans ws = map span ws

-- a tuple, and those to come behind it
pub record Course : Type 0 where
  pub tuple : Tuple
  pub to_come : List Tuple

-- once they turn, the wheels show a tuple; before that, all tuples are to come
abbrev pub to_come_of : Bool → List Wheel → List Tuple
to_come_of true ws = behind ws []
to_come_of false ws = tuples (spans ws) []

-- before they turn, each wheel stands at its least number
abbrev pub AreSet : Bool → List Wheel → Type 0
AreSet true ws = All IsWheel ws
AreSet false ws = All IsAtFirst ws

-- the next tuple, if there is one
abbrev pub Advances : Bool → Course → Course → Type 0
Advances true before after = before.to_come ≡ after.tuple ∷ after.to_come
Advances false before after = before.to_come ≡ []

-- the wheel has one number alone
pub record IsFixed (w : Wheel) : Type 0 where
  pub least : w.range.least ≡ w.number
  pub greatest : w.range.greatest ≡ w.number
