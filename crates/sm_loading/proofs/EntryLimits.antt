-- Of the limits only that of an entry is told of a data file.
use Rattle.std.proofs.Common.{◌≡◌, sym, refl, subst, ◌⊎◌, inl, inr, ℕ, ◌==◌, length, ℤ, Bool, true, false, List, [], ◌∷◌, ◌++◌, Option, Some, None, Result, Ok, Err, codes}
use Rattle.std.specs.Prelude.{if◌then◌else◌, nat_le, unsigned_abs, ◌^◌}
use Rattle.toml.specs.Data.{Data, Items, Members, no_members, member, as_integer, as_array}
use Rattle.sm_words.specs.Names.{is_name}
use Rattle.sm_data.specs.declared.refusal.Counted.{Counted}
use Rattle.sm_data.specs.declared.refusal.Counted.TheVariants as counted
use Rattle.sm_data.specs.declared.refusal.DataCause.TheVariants as cause
use Rattle.sm_data.specs.declared.refusal.DataRefusal.{DataRefusal}
use Rattle.sm_data.specs.declared.refusal.DataRefusal.TheVariants as refusal
use Rattle.sm_data.specs.declared.table.Table.TheVariants as table
use Rattle.sm_data.specs.Numbers.{◌>>=◌, bad, too_large, number_of, each}
use Rattle.sm_data.specs.Documents.{Entry, is_known, data_in, number_in, row_from, row_in, grid_in, array_from, array_in, table_from, table_in, entry_in, with_entry, entries_with}
use Rattle.sm_data.specs.Paths.{file_name, stem_of}
use Rattle.sm_data.specs.Files.{DocumentComesTo, RecordsComeTo, NamedComesTo, EndingComesTo, FileComesTo}
use Rattle.sm_data.proofs.Outcomes.{one_of_file}

-- no limit but that of an entry is told
abbrev TellsEntry : DataRefusal → Type 0
TellsEntry (refusal.Limit what found bound) = what ≡ counted.Entry
TellsEntry (refusal.BadData c) = Unit {0}
TellsEntry refusal.OutOfMemory = Unit {0}

abbrev EndsWell : {A : Type 0} → Result A DataRefusal → Type 0
EndsWell (Ok x) = Unit {0}
EndsWell (Err e) = TellsEntry e

then_well : {A B : Type 0} (r : Result A DataRefusal) (f : A → Result B DataRefusal) → EndsWell r → ((x : A) → EndsWell (f x)) → EndsWell (r >>= f)
then_well (Ok x) f first next = next x
then_well (Err e) f first next = first

either_well : {A : Type 0} (b : Bool) (x y : Result A DataRefusal) → EndsWell x → EndsWell y → EndsWell (if b then x else y)
either_well true x y one other = one
either_well false x y one other = other

each_well : {X A : Type 0} (f : X → Result A DataRefusal) → ((x : X) → EndsWell (f x)) → (xs : List X) → EndsWell (each f xs)
each_well f well [] = tt
each_well f well (x ∷ xs) = then_well (f x) (λ y. each f xs >>= λ ys. Ok (y ∷ ys)) (well x) (λ y. then_well (each f xs) (λ ys. Ok (y ∷ ys)) (each_well f well xs) (λ ys. tt))

number_well : (o : Option ℤ) → EndsWell (number_of o)
number_well None = tt
number_well (Some z) = either_well (nat_le (unsigned_abs z) (2 ^ 31)) (Ok z) (Err (too_large z)) tt refl

row_well : (width : ℕ) (o : Option Items) → EndsWell (row_from width o)
row_well width None = tt
row_well width (Some ds) = either_well (length (data_in ds) == width) (each number_in (data_in ds)) (Err (bad cause.Shape)) (each_well number_in (λ d. number_well (as_integer d)) (data_in ds)) tt

grid_well : (width : ℕ) (ds : List Data) → EndsWell (grid_in width ds)
grid_well width ds = either_well (width == 0) (Err (bad cause.Shape)) (each (row_in width) ds >>= λ rows. Ok (table.Grid rows)) tt
    (then_well (each (row_in width) ds) (λ rows. Ok (table.Grid rows)) (each_well (row_in width) (λ d. row_well width (as_array d)) ds) (λ rows. tt))

array_from_well : (first : Option Items) (ds : List Data) → EndsWell (array_from first ds)
array_from_well None ds = then_well (each number_in ds) (λ zs. Ok (table.List zs)) (each_well number_in (λ d. number_well (as_integer d)) ds) (λ zs. tt)
array_from_well (Some first) ds = grid_well (length (data_in first)) ds

array_well : (ds : List Data) → EndsWell (array_in ds)
array_well [] = tt
array_well (d ∷ ds) = array_from_well (as_array d) (d ∷ ds)

table_well : (number : Option ℤ) (array : Option Items) → EndsWell (table_from number array)
table_well (Some z) array = then_well (number_of (Some z)) (λ n. Ok (table.Number n)) (number_well (Some z)) (λ n. tt)
table_well None (Some ds) = array_well (data_in ds)
table_well None None = tt

entry_well : (name : List ℕ) (d : Data) (known : List Entry) → EndsWell (entry_in name d known)
entry_well name d known =
    let new : Result Entry DataRefusal = table_in d >>= λ t. Ok (name, t) in
    either_well (is_name name) (if is_known name known then Err (bad cause.Doubled) else new) (Err (bad cause.Name))
    (either_well (is_known name known) (Err (bad cause.Doubled)) new tt (then_well (table_in d) (λ t. Ok (name, t)) (table_well (as_integer d) (as_array d)) (λ t. tt))) tt

entries_well : (known : List Entry) (ms : Members) → EndsWell (entries_with known ms)
entries_well known no_members = tt
entries_well known (member k d ms) =
    then_well (with_entry known (entry_in k d known)) (λ es. entries_with es ms)
    (then_well (entry_in k d known) (λ e. Ok (known ++ e ∷ [])) (entry_well k d known) (λ e. tt)) (λ es. entries_well es ms)

-- ---- an ending that isn't such is none
--
-- Where the rows of a file come to an outcome that tells another limit, no readings of them do, and so the rows come to
-- each outcome alike; but a file comes to one outcome.

module _ (known : List Entry) (found : Result (List Entry) DataRefusal) (other : EndsWell found → ⊥) where
  no_such : (r : Result (List Entry) DataRefusal) → EndsWell r → found ≡ r → ⊥
  no_such r well is = other (subst (λ (x : Result (List Entry) DataRefusal). EndsWell x) (sym is) well)

  document_other : (bytes : List ℕ) → DocumentComesTo bytes known found → DocumentComesTo bytes known (Ok [])
  document_other bytes (inl none) = absurd (no_such (Err (bad cause.Toml)) tt none.0)
  document_other bytes (inr some) = absurd (no_such (entries_with known some.0) (entries_well known some.0) some.2)

  grid_of_well : (name : List ℕ) (reads : List (List (Option ℤ))) → EndsWell (each (each number_of) reads >>= λ grid. Ok (known ++ (name, table.Grid grid) ∷ []))
  grid_of_well name reads =
      then_well (each (each number_of) reads) (λ grid. Ok (known ++ (name, table.Grid grid) ∷ [])) (each_well (each number_of) (each_well number_of number_well) reads) (λ grid. tt)

  records_other : (name bytes : List ℕ) → RecordsComeTo name bytes known found → RecordsComeTo name bytes known (Ok [])
  records_other name bytes (inl uneven) = absurd (no_such (Err (bad cause.Csv)) tt uneven.0)
  records_other name bytes (inr (rows, are, come)) =
      inr (rows, are, λ reads have. absurd (no_such (each (each number_of) reads >>= λ grid. Ok (known ++ (name, table.Grid grid) ∷ [])) (grid_of_well name reads) (come reads have)))

  named_other : (new doubled : Bool) (name bytes : List ℕ) → NamedComesTo new doubled name bytes known found → NamedComesTo new doubled name bytes known (Ok [])
  named_other false doubled name bytes is = absurd (no_such (Err (bad cause.Name)) tt is)
  named_other true true name bytes is = absurd (no_such (Err (bad cause.Doubled)) tt is)
  named_other true false name bytes come = records_other name bytes come

  ending_other : (toml csv : Option (List ℕ)) (bytes : List ℕ) → EndingComesTo toml csv bytes known found → EndingComesTo toml csv bytes known (Ok [])
  ending_other (Some stem) csv bytes come = document_other bytes come
  ending_other None (Some stem) bytes come = named_other (is_name stem) (is_known stem known) stem bytes come
  ending_other None None bytes is = absurd (no_such (Err (bad cause.Name)) tt is)

  file_other : (name bytes : List ℕ) → FileComesTo name bytes known found → found ≡ Ok []
  file_other name bytes come =
      one_of_file known found (Ok []) name bytes come (ending_other (stem_of (codes ".toml") (file_name name)) (stem_of (codes ".csv") (file_name name)) bytes come)

no_ok : (e : DataRefusal) (es : List Entry) → Err e ≡ Ok es → ⊥
no_ok e es is = cc

entry_or_other : (what : Counted) → (what ≡ counted.Entry) ⊎ (what ≡ counted.Entry → ⊥)
entry_or_other counted.Entry = inl refl
entry_or_other _ = inr (λ e. cc)

pub entry_limit : (name bytes : List ℕ) (known : List Entry) (what : Counted) (found bound : ℤ) → FileComesTo name bytes known (Err (refusal.Limit what found bound)) → what ≡ counted.Entry
entry_limit name bytes known what found bound come = elim (entry_or_other what) [
  | inl is ↦ is
  | inr other ↦ absurd (no_ok (refusal.Limit what found bound) [] (file_other known (Err (refusal.Limit what found bound)) other name bytes come))
]
