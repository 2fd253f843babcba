-- What names stand for: tables, index sets, variables and families of variables, and the numbers of binders.
use Rattle.std.specs.Prelude.{ℕ, List, [], ◌∷◌, ◌++◌, length, ℤ, Bool, ◌||◌, is_some, Option, Some, None, if◌then◌else◌}
use Rattle.std.specs.Str.{bytes_eq}
use Rattle.sm_kinds.specs.declared.var.VarKind.{VarKind}
use Rattle.sm_data.specs.declared.table.Table.{Table}
use Rattle.sm_meaning.specs.declared.range.Range.{Range}

-- a variable has its number, and a family the number of its first member and an index set for each index
pub data Thing : Type 0 where
  table : Table → Thing
  index_set : Range → Thing
  variable : ℕ → Thing
  family : ℕ → List Range → Thing

-- what stands beside a name, the first time that it stands there
abbrev pub found : {X : Type 0} → List (List ℕ × X) → List ℕ → Option X
found [] name = None
found (x ∷ xs) name = if bytes_eq name x.0 then Some x.1 else found xs name

abbrev pub Names : Type 0
Names = List (List ℕ × Thing)

-- binders with their numbers
abbrev pub Tuple : Type 0
Tuple = List (List ℕ × ℤ)

abbrev pub with_number : Tuple → List ℕ → ℤ → Tuple
with_number b name z = b ++ (name, z) ∷ []

-- the names that are known, and the kind of each variable
pub record Scope : Type 0 where
  pub names : Names
  pub kinds : List VarKind

-- how many variables there are
abbrev pub count_of : Scope → ℕ
count_of s = length s.kinds

abbrev pub is_known : Scope → Tuple → List ℕ → Bool
is_known s b name = is_some (found b name) || is_some (found s.names name)
