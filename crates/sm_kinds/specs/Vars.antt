-- Variables with their declared domains.
use Rattle.std.specs.Prelude.{◌≡◌, ◌≢◌, ℕ, ◌<◌, ◌≤◌, ◌+◌, ◌-◌, ◌⊎◌, List, [], ◌∷◌, length, ℤ, pos, ◌-ℤ◌, ◌*ℤ◌, ◌<ℤ◌, ◌≤ℤ◌, All, unsigned_abs, Bool, true, false, slice_index_or}
use Rattle.sm_kinds.specs.declared.var.Var.{Var}
use Rattle.sm_kinds.specs.declared.var.VarKind.{VarKind}
use Rattle.sm_kinds.specs.declared.var.VarKind.TheVariants.{Set, Int, Real}
use Rattle.sm_kinds.specs.Limits.{IsSmall, most_width}

-- ---- what lies in a domain

-- the fraction is one of these whole numbers
abbrev pub IsOneOf : ℤ → ℤ → List ℤ → Type 0
IsOneOf numerator denominator [] = ⊥
IsOneOf numerator denominator (v ∷ vs) = (numerator ≡ v *ℤ denominator) ⊎ IsOneOf numerator denominator vs

-- the fraction is neither below the first nor above the second of these numbers; without two there is no such fraction
abbrev pub IsBetween : ℤ → ℤ → List ℤ → Type 0
IsBetween numerator denominator [] = ⊥
IsBetween numerator denominator (least ∷ []) = ⊥
IsBetween numerator denominator (least ∷ greatest ∷ vs) = ((least *ℤ denominator) ≤ℤ numerator) × (numerator ≤ℤ (greatest *ℤ denominator))

-- the fraction is a whole number
abbrev pub IsMultiple : ℤ → ℤ → Type 0
IsMultiple numerator denominator = (z : ℤ) × (numerator ≡ z *ℤ denominator)

-- the fraction lies in the domain that a kind of variable makes of these numbers
abbrev pub LiesIn : VarKind → List ℤ → ℤ → ℤ → Type 0
LiesIn Set values numerator denominator = IsOneOf numerator denominator values
LiesIn Int values numerator denominator = IsBetween numerator denominator values × IsMultiple numerator denominator
LiesIn Real values numerator denominator = IsBetween numerator denominator values

-- ---- declared domains

-- each number is below the next
abbrev pub IsRising : List ℤ → Type 0
IsRising values = (k : ℕ) → k + 1 < length values → (slice_index_or values k (pos 0)) <ℤ (slice_index_or values (k + 1) (pos 0))

abbrev pub first_of : List ℤ → ℤ
first_of values = slice_index_or values 0 (pos 0)

abbrev pub last_of : List ℤ → ℤ
last_of values = slice_index_or values (length values - 1) (pos 0)

-- how many whole numbers lie between the ends of these, both counted
abbrev pub width_of : List ℤ → ℕ
width_of values = unsigned_abs (last_of values -ℤ first_of values) + 1

-- a set of values: at least one, rising, each within 2^31, and at most 4,096 wide
pub record IsSetDomain (values : List ℤ) : Type 0 where
  pub some : 0 < length values
  pub rising : IsRising values
  pub small : All IsSmall values
  pub narrow : width_of values ≤ most_width

-- the two ends of a range, each within 2^31, the first not above the second
pub record IsRange (values : List ℤ) : Type 0 where
  pub two : length values ≡ 2
  pub ordered : first_of values ≤ℤ last_of values
  pub small : All IsSmall values

abbrev pub IsDomain : VarKind → List ℤ → Type 0
IsDomain Set values = IsSetDomain values
IsDomain Int values = IsRange values
IsDomain Real values = IsRange values

-- the width that counts towards the limit of all set variables
abbrev pub set_width : VarKind → List ℤ → ℕ
set_width Set values = width_of values
set_width Int values = 0
set_width Real values = 0

-- ---- the variables of a model, by number

-- what a number that no variable has names: a variable without values
abbrev pub no_var : Var
no_var = record { name = []; kind = Set; values = [] }

abbrev pub var_at : List Var → ℕ → Var
var_at vars i = slice_index_or vars i no_var

-- variable i is one of them, and has a set of values
pub record IsSet (vars : List Var) (i : ℕ) : Type 0 where
  pub known : i < length vars
  pub kind : (var_at vars i).kind ≡ Set

-- variable i is one of them, and has whole values alone
pub record IsDiscrete (vars : List Var) (i : ℕ) : Type 0 where
  pub known : i < length vars
  pub kind : (var_at vars i).kind ≢ Real

-- the variable may have any value between its ends
abbrev pub is_real_kind : VarKind → Bool
is_real_kind Set = false
is_real_kind Int = false
is_real_kind Real = true

abbrev pub is_real : List Var → ℕ → Bool
is_real vars i = is_real_kind (var_at vars i).kind
