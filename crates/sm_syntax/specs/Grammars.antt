-- Grammars as tables, what they derive, and the test that one token of look-ahead serves (the LL(1) grammars of Lewis and
-- Stearns, 1968).
use Rattle.std.specs.Prelude.{◌≡◌, ◌==◌, ◌&&◌, ◌||◌, ◌⊎◌, ℕ, zero, suc, Bool, true, false, not, if◌then◌else◌, List, [], ◌∷◌, ◌++◌, Option, Some, None, find}
use Rattle.std.specs.List.{list_all, list_any}

-- a terminal, by its number, or a nonterminal
pub data Symbol : Type 0 where
  leaf : ℕ → Symbol
  node : ℕ → Symbol

-- the number of either
abbrev pub number_of : Symbol → ℕ
number_of (leaf a) = a
number_of (node A) = A

-- The alternatives of each nonterminal, and three tables that go with them: the kinds with which it may begin,
-- those that may follow it, and whether it may be empty.
pub record Grammar : Type 0 where
  pub alternatives : ℕ → List (List Symbol)
  pub first : ℕ → List ℕ
  pub follow : ℕ → List ℕ
  pub nullable : ℕ → Bool

-- the right side is one of these
abbrev pub IsAlternative : List (List Symbol) → List Symbol → Type 0
IsAlternative [] x = ⊥
IsAlternative (y ∷ ys) x = (y ≡ x) ⊎ IsAlternative ys x

-- the symbols derive the word
pub data Derives (g : Grammar) : List Symbol → List ℕ → Type 0 where
  done : Derives g [] []
  token : (a : ℕ) (ss : List Symbol) (w : List ℕ) → Derives g ss w → Derives g (leaf a ∷ ss) (a ∷ w)
  rule : (A : ℕ) (rhs ss : List Symbol) (w : List ℕ) → IsAlternative (g.alternatives A) rhs → Derives g (rhs ++ ss) w → Derives g (node A ∷ ss) w

abbrev pub is_among : ℕ → List ℕ → Bool
is_among d xs = list_any (λ x. x == d) xs

-- the symbols may be empty
abbrev pub vanishes : Grammar → List Symbol → Bool
vanishes g [] = true
vanishes g (leaf a ∷ ss) = false
vanishes g (node A ∷ ss) = g.nullable A && vanishes g ss

-- the symbols may begin with the kind
abbrev pub starts : Grammar → List Symbol → ℕ → Bool
starts g [] d = false
starts g (leaf a ∷ ss) d = a == d
starts g (node A ∷ ss) d = is_among d (g.first A) || (g.nullable A && starts g ss d)

-- the alternative is taken at the kind
abbrev pub selects : Grammar → ℕ → List Symbol → ℕ → Bool
selects g A rhs d = starts g rhs d || (vanishes g rhs && is_among d (g.follow A))

abbrev pub first_some : Option (List Symbol) → Option (List Symbol) → Option (List Symbol)
first_some None other = other
first_some (Some x) other = Some x

abbrev pub first_of : List (List Symbol) → Option (List Symbol)
first_of [] = None
first_of (r ∷ rs) = Some r

-- The alternative that may begin so, or else the one that may be empty, or else the first. Where the first can't go on
-- at the kind, no other can: so the error shows behind it.
abbrev pub predict : Grammar → ℕ → ℕ → Option (List Symbol)
predict g A d = first_some (find (λ rhs. starts g rhs d) (g.alternatives A)) (first_some (find (vanishes g) (g.alternatives A)) (first_of (g.alternatives A)))

-- the tables follow one another in one right side of A
abbrev pub FollowsIn : Grammar → ℕ → List Symbol → Type 0
FollowsIn g A [] = Unit {0}
FollowsIn g A (leaf a ∷ ss) = FollowsIn g A ss
FollowsIn g A (node X ∷ ss) = ((d : ℕ) → starts g ss d ≡ true → is_among d (g.follow X) ≡ true)
    × (vanishes g ss ≡ true → (d : ℕ) → is_among d (g.follow A) ≡ true → is_among d (g.follow X) ≡ true)
    × FollowsIn g A ss

-- the tables are right, and one token decides each alternative
pub record IsLl1 (g : Grammar) : Type 0 where
  pub firsts : (A : ℕ) (rhs : List Symbol) → IsAlternative (g.alternatives A) rhs → (d : ℕ) → starts g rhs d ≡ true → is_among d (g.first A) ≡ true
  pub empties : (A : ℕ) (rhs : List Symbol) → IsAlternative (g.alternatives A) rhs → vanishes g rhs ≡ true → g.nullable A ≡ true
  pub follows : (A : ℕ) (rhs : List Symbol) → IsAlternative (g.alternatives A) rhs → FollowsIn g A rhs
  pub one : (A : ℕ) (rhs : List Symbol) → IsAlternative (g.alternatives A) rhs → (d : ℕ) → selects g A rhs d ≡ true → predict g A d ≡ Some rhs
  pub ends : (A : ℕ) → (w : List ℕ) × Derives g (node A ∷ []) w

-- ---- a grammar as a list of rows, and the test that one token of look-ahead serves

pub record Row : Type 0 where
  pub alternatives : List (List Symbol)
  pub first : List ℕ
  pub follow : List ℕ
  pub nullable : Bool
  -- a word that it derives
  pub sample : List ℕ

abbrev pub empty_row : Row
empty_row = record { alternatives = [] ∷ []; first = []; follow = []; nullable = true; sample = [] }

abbrev pub row_at : List Row → ℕ → Row
row_at [] A = empty_row
row_at (r ∷ rs) zero = r
row_at (r ∷ rs) (suc A) = row_at rs A

abbrev pub grammar_of : List Row → Grammar
grammar_of rows = record {
  alternatives = λ A. (row_at rows A).alternatives;
  first = λ A. (row_at rows A).first;
  follow = λ A. (row_at rows A).follow;
  nullable = λ A. (row_at rows A).nullable;
}

-- the kinds with which the symbols may begin
abbrev pub start_set : Grammar → List Symbol → List ℕ
start_set g [] = []
start_set g (leaf a ∷ ss) = a ∷ []
start_set g (node A ∷ ss) = g.first A ++ (if g.nullable A then start_set g ss else [])

abbrev pub select_set : Grammar → ℕ → List Symbol → List ℕ
select_set g A rhs = start_set g rhs ++ (if vanishes g rhs then g.follow A else [])

abbrev pub is_within : List ℕ → List ℕ → Bool
is_within xs ys = list_all (λ d. is_among d ys) xs

abbrev pub follow_test : Grammar → ℕ → List Symbol → Bool
follow_test g A [] = true
follow_test g A (leaf a ∷ ss) = follow_test g A ss
follow_test g A (node X ∷ ss) = is_within (start_set g ss) (g.follow X)
    && ((not (vanishes g ss) || is_within (g.follow A) (g.follow X)) && follow_test g A ss)

-- no two alternatives are taken at one kind
abbrev pub apart_test : Grammar → ℕ → List (List Symbol) → Bool
apart_test g A [] = true
apart_test g A (r ∷ rs) = list_all (λ d. not (list_any (λ q. selects g A q d) rs)) (select_set g A r) && apart_test g A rs

-- at most one alternative may be empty
abbrev pub lone_test : Grammar → List (List Symbol) → Bool
lone_test g [] = true
lone_test g (r ∷ rs) = (not (vanishes g r) || not (list_any (vanishes g) rs)) && lone_test g rs

abbrev pub alternative_at : Grammar → ℕ → List ℕ → Option (List Symbol)
alternative_at g A [] = find (vanishes g) (g.alternatives A)
alternative_at g A (c ∷ w) = predict g A c

abbrev pub derive_with : Option (List Symbol) → (List Symbol → Bool) → Bool
derive_with None go = false
derive_with (Some rhs) go = go rhs

-- the symbols derive the word, within so many steps
abbrev pub derive_test : Grammar → ℕ → List Symbol → List ℕ → Bool
derive_test g zero ss w = false
derive_test g (suc k) [] [] = true
derive_test g (suc k) [] (c ∷ w) = false
derive_test g (suc k) (leaf a ∷ ss) [] = false
derive_test g (suc k) (leaf a ∷ ss) (c ∷ w) = a == c && derive_test g k ss w
derive_test g (suc k) (node A ∷ ss) w = derive_with (alternative_at g A w) (λ rhs. derive_test g k (rhs ++ ss) w)

abbrev pub row_test : Grammar → ℕ → Row → Bool
row_test g A r = list_all (λ rhs. is_within (start_set g rhs) r.first) r.alternatives
    && (list_all (λ rhs. not (vanishes g rhs) || r.nullable) r.alternatives
    && (list_all (follow_test g A) r.alternatives
    && (apart_test g A r.alternatives && (lone_test g r.alternatives && derive_test g 50 (node A ∷ []) r.sample))))

abbrev pub rows_test : Grammar → ℕ → List Row → Bool
rows_test g A [] = true
rows_test g A (r ∷ rs) = row_test g A r && rows_test g (suc A) rs

-- one token of look-ahead serves
abbrev pub is_ll1 : List Row → Bool
is_ll1 rows = rows_test (grammar_of rows) 0 rows
