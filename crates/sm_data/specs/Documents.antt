-- What the keys of a TOML document stand for.
use Rattle.std.specs.Prelude.{◌≡◌, ◌++◌, Bool, ℕ, ◌==◌, length, ℤ, List, [], ◌∷◌, Option, Some, None, Result, Ok, Err, if◌then◌else◌}
use Rattle.std.specs.List.{list_any}
use Rattle.std.specs.Str.{IsUtf8, bytes_eq}
use Rattle.toml.specs.Data.{Data, Items, Members, no_items, item, no_members, member, as_integer, as_array}
use Rattle.toml.specs.Parse.{parse_document}
use Rattle.sm_data.specs.declared.refusal.DataCause.TheVariants as cause
use Rattle.sm_data.specs.declared.refusal.DataRefusal.{DataRefusal}
use Rattle.sm_data.specs.declared.table.Table.{Table}
use Rattle.sm_data.specs.declared.table.Table.TheVariants as table
use Rattle.sm_words.specs.Names.{is_name}
use Rattle.sm_data.specs.Numbers.{◌>>=◌, bad, number_of, each}

abbrev pub Entry : Type 0
Entry = List ℕ × Table

-- some table has the name
abbrev pub is_known : List ℕ → List Entry → Bool
is_known name es = list_any (λ (e : Entry). bytes_eq name e.0) es

abbrev pub data_in : Items → List Data
data_in no_items = []
data_in (item d ds) = d ∷ data_in ds

abbrev pub number_in : Data → Result ℤ DataRefusal
number_in d = number_of (as_integer d)

-- an array of whole numbers, of a given length
abbrev pub row_from : ℕ → Option Items → Result (List ℤ) DataRefusal
row_from width None = Err (bad cause.Shape)
row_from width (Some ds) = if length (data_in ds) == width then each number_in (data_in ds) else Err (bad cause.Shape)

abbrev pub row_in : ℕ → Data → Result (List ℤ) DataRefusal
row_in width d = row_from width (as_array d)

-- the rows of a table of two indices: all of one length, which is at least 1
abbrev pub grid_in : ℕ → List Data → Result Table DataRefusal
grid_in width ds = if width == 0 then Err (bad cause.Shape) else (each (row_in width) ds >>= λ rows. Ok (table.Grid rows))

-- an array whose first member is an array has two indices; another one has one
abbrev pub array_from : Option Items → List Data → Result Table DataRefusal
array_from None ds = each number_in ds >>= λ zs. Ok (table.List zs)
array_from (Some first) ds = grid_in (length (data_in first)) ds

abbrev pub array_in : List Data → Result Table DataRefusal
array_in [] = Ok (table.List [])
array_in (d ∷ ds) = array_from (as_array d) (d ∷ ds)

abbrev pub table_from : Option ℤ → Option Items → Result Table DataRefusal
table_from (Some z) array = number_of (Some z) >>= λ n. Ok (table.Number n)
table_from None (Some ds) = array_in (data_in ds)
table_from None None = Err (bad cause.Shape)

-- a whole number, or an array
abbrev pub table_in : Data → Result Table DataRefusal
table_in d = table_from (as_integer d) (as_array d)

-- a key with its value: the name, then whether it is new, then the members in order
abbrev pub entry_in : List ℕ → Data → List Entry → Result Entry DataRefusal
entry_in name d known =
    if is_name name then (if is_known name known then Err (bad cause.Doubled) else (table_in d >>= λ t. Ok (name, t))) else Err (bad cause.Name)

-- the tables with one more
abbrev pub with_entry : List Entry → Result Entry DataRefusal → Result (List Entry) DataRefusal
with_entry known entry = entry >>= λ e. Ok (known ++ e ∷ [])

-- the tables with those of the members, in the order of the bytes of their keys; a document has no key twice, so a
-- name that is known is one of an earlier file
abbrev pub entries_with : List Entry → Members → Result (List Entry) DataRefusal
entries_with known no_members = Ok known
entries_with known (member k d ms) = with_entry known (entry_in k d known) >>= λ es. entries_with es ms

-- the bytes are a document with these members
pub record IsDocument (bytes : List ℕ) (ms : Members) : Type 0 where
  pub text : IsUtf8 bytes
  pub members : parse_document bytes ≡ Some ms
