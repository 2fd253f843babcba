-- The dictionary that the code's table stands for, and what its parts of a pivot and of the search for a move answer.
use Rattle.std.specs.Prelude.{◌≡◌, ◌≢◌, ℕ, suc, ◌+◌, ◌*◌, ◌<◌, ◌≤◌, Bool, true, false, nat_lt, if◌then◌else◌, slice_index_or, List, length}
use Rattle.sm_frac.specs.Rational.{ℚ, ◌*ℚ◌, ◌-ℚ◌, zero_ℚ}
use Rattle.sm_frac.specs.Frac.{value_of}
use Rattle.sm_frac.specs.Passes.{Passes}
use Rattle.sm_frac.specs.declared.fraction.Frac.{Frac}
use Rattle.sm_frac.specs.declared.operation.Op.{Op}
use Rattle.sm_frac.specs.declared.operation.Op.TheVariants.{Plus, Minus, Times, Over, Lcm}
use Rattle.sm_lp.specs.declared.table.Table.{Table}
use Rattle.sm_lp.specs.Dictionary.{Dictionary}
use Rattle.sm_certificate.specs.Numbers.{number_at}
use Rattle.sm_certificate.specs.Signs.{AtLeast, Below, AtMost, Above}
use Rattle.sm_certificate.specs.Fine.{IsFine}

-- the entry of row i and column j, of w columns, where the rows stand one after the other
unfoldable pub cell_entry : ℕ → ℕ → List Frac → ℕ → ℕ → ℚ
cell_entry h w cells i j = if nat_lt i h then (if nat_lt j w then number_at cells (i * w + j) else zero_ℚ) else zero_ℚ

abbrev pub dictionary_of : Table → Dictionary
dictionary_of t = record {
  height = suc t.goal;
  width = suc t.constant;
  basic = λ i. slice_index_or t.basic.items i 0;
  nonbasic = λ j. slice_index_or t.nonbasic.items j 0;
  entry = cell_entry (suc t.goal) (suc t.constant) t.cells.items;
}

-- the number of row r is the least of those below row g whose entry in column c is negative
pub record IsLeaving (d : Dictionary) (g c r : ℕ) : Type 0 where
  pub row : r < g
  pub negative : Below (d.entry r c)
  pub others : (i : ℕ) → i < g → d.basic i < d.basic r → AtLeast (d.entry i c)

pub record NoneLeaves (d : Dictionary) (g c : ℕ) : Type 0 where
  pub none : (i : ℕ) → i < g → AtLeast (d.entry i c)

-- above 0 where a sign is positive, else below
abbrev pub HasSign : Bool → ℚ → Type 0
HasSign true x = Above x
HasSign false x = Below x

abbrev pub LacksSign : Bool → ℚ → Type 0
LacksSign true x = AtMost x
LacksSign false x = AtLeast x

-- the number of column c is the least of those before column f whose entry in row r has the sign
pub record IsEntering (d : Dictionary) (f r : ℕ) (positive : Bool) (c : ℕ) : Type 0 where
  pub column : c < f
  pub sign : HasSign positive (d.entry r c)
  pub others : (j : ℕ) → j < f → d.nonbasic j < d.nonbasic c → LacksSign positive (d.entry r j)

pub record NoneEnters (d : Dictionary) (f r : ℕ) (positive : Bool) : Type 0 where
  pub none : (j : ℕ) → j < f → LacksSign positive (d.entry r j)

-- the place holds what it did less the product, and no step passed
pub record IsSubtracted (old new : List Frac) (place : ℕ) (factor quotient : ℚ) : Type 0 where
  pub long : length new ≡ length old
  pub here : number_at new place ≡ number_at old place -ℚ factor *ℚ quotient
  pub others : (k : ℕ) → k ≢ place → number_at new k ≡ number_at old k
  pub product : IsFine Times factor quotient
  pub difference : IsFine Minus (number_at old place) (factor *ℚ quotient)

-- the product passes, or the difference
abbrev pub IsSubtraction : ℚ → ℚ → ℚ → Op → ℚ → ℚ → Type 0
IsSubtraction old factor quotient Times x y = (x ≡ factor) × (y ≡ quotient)
IsSubtraction old factor quotient Minus x y = (x ≡ old) × (y ≡ factor *ℚ quotient)
IsSubtraction old factor quotient Over x y = ⊥
IsSubtraction old factor quotient Plus x y = ⊥
IsSubtraction old factor quotient Lcm x y = ⊥

pub record IsSubtractionPassed (old factor quotient : ℚ) (op : Op) (left right : Frac) : Type 0 where
  pub step : IsSubtraction old factor quotient op (value_of left) (value_of right)
  pub passes : Passes op left right

-- each place of the row at s but that of column c holds what it did less the multiple of its quotient
pub record IsRowSubtracted (old new : List Frac) (factor : ℚ) (quotients : List Frac) (s c : ℕ) : Type 0 where
  pub long : length new ≡ length old
  pub others : (j : ℕ) → j < length quotients → j ≢ c → number_at new (s + j) ≡ number_at old (s + j) -ℚ factor *ℚ number_at quotients j
  pub own : number_at new (s + c) ≡ number_at old (s + c)
  pub before : (k : ℕ) → k < s → number_at new k ≡ number_at old k
  pub after : (k : ℕ) → s + length quotients ≤ k → number_at new k ≡ number_at old k
  pub products : (j : ℕ) → j < length quotients → j ≢ c → IsFine Times factor (number_at quotients j)
  pub differences : (j : ℕ) → j < length quotients → j ≢ c → IsFine Minus (number_at old (s + j)) (factor *ℚ number_at quotients j)

-- the row at the place s, less the multiple of the quotients that brings its number in column c to theirs
pub record IsEliminated (old new quotients : List Frac) (s c : ℕ) : Type 0 where
  pub column : number_at new (s + c) ≡ number_at old (s + c) *ℚ number_at quotients c
  pub others : (j : ℕ) → j < length quotients → j ≢ c → number_at new (s + j) ≡ number_at old (s + j) -ℚ number_at old (s + c) *ℚ number_at quotients j
  pub before : (k : ℕ) → k < s → number_at new k ≡ number_at old k
  pub after : (k : ℕ) → s + length quotients ≤ k → number_at new k ≡ number_at old k
  pub products : (j : ℕ) → j < length quotients → IsFine Times (number_at old (s + c)) (number_at quotients j)
  pub differences : (j : ℕ) → j < length quotients → j ≢ c → IsFine Minus (number_at old (s + j)) (number_at old (s + c) *ℚ number_at quotients j)

-- a step of that elimination
abbrev pub IsRowStep : List Frac → List Frac → ℕ → ℕ → Op → ℚ → ℚ → Type 0
IsRowStep old quotients s c Times x y = (j : ℕ) × (j < length quotients) × (x ≡ number_at old (s + c)) × (y ≡ number_at quotients j)
IsRowStep old quotients s c Minus x y = (j : ℕ) × (j < length quotients) × (j ≢ c) × (x ≡ number_at old (s + j)) × (y ≡ number_at old (s + c) *ℚ number_at quotients j)
IsRowStep old quotients s c Over x y = ⊥
IsRowStep old quotients s c Plus x y = ⊥
IsRowStep old quotients s c Lcm x y = ⊥

pub record IsRowPassed (old quotients : List Frac) (s c : ℕ) (op : Op) (left right : Frac) : Type 0 where
  pub step : IsRowStep old quotients s c op (value_of left) (value_of right)
  pub passes : Passes op left right
