-- What the tables are after a file was added, or why it is refused.
use Rattle.std.specs.Prelude.{◌≡◌, ◌++◌, ◌⊎◌, codes, ℕ, ℤ, Bool, true, false, List, [], ◌∷◌, Option, Some, None, Result, Ok, Err, string_bytes, String, if◌then◌else◌}
use Rattle.std.specs.Str.{bytes_eq}
use Rattle.std.specs.declared.alloc.Global.{Global}
use Rattle.toml.specs.Data.{Members}
use Rattle.sm_data.specs.declared.table.Table.{Table}
use Rattle.sm_data.specs.declared.table.Table.TheVariants as table
use Rattle.sm_data.specs.declared.refusal.DataCause.TheVariants as cause
use Rattle.sm_data.specs.declared.refusal.DataRefusal.{DataRefusal}
use Rattle.sm_data.specs.declared.refusal.DataRefusal.TheVariants as refusal
use Rattle.sm_words.specs.Names.{is_name}
use Rattle.sm_data.specs.Paths.{file_name, stem_of}
use Rattle.sm_data.specs.Numbers.{◌>>=◌, bad, number_of, each}
use Rattle.sm_data.specs.Documents.{Entry, is_known, entries_with, IsDocument}
use Rattle.sm_data.specs.Records.{Fields, AreRows, AreUneven, RowsHaveReadings}

-- a name with its table, without where they lie
abbrev pub entry_view : String Global × Table → Entry
entry_view e = (string_bytes e.0, e.1)

-- the table of a name
abbrev pub table_of : List Entry → List ℕ → Option Table
table_of [] name = None
table_of (e ∷ es) name = if bytes_eq name e.0 then Some e.1 else table_of es name

-- a TOML file: it is no document, or its keys are walked
abbrev pub DocumentComesTo : List ℕ → List Entry → Result (List Entry) DataRefusal → Type 0
DocumentComesTo bytes known found =
    ((found ≡ Err (bad cause.Toml)) × ((ms : Members) → IsDocument bytes ms → ⊥))
    ⊎ ((ms : Members) × IsDocument bytes ms × (found ≡ entries_with known ms))

-- the records of a file, as a table of two indices with this name
abbrev pub RowsComeTo : List ℕ → List Fields → List Entry → Result (List Entry) DataRefusal → Type 0
RowsComeTo name rows known found =
    (reads : List (List (Option ℤ))) → RowsHaveReadings rows reads → found ≡ (each (each number_of) reads >>= λ grid. Ok (known ++ (name, table.Grid grid) ∷ []))

-- a file of comma-separated fields: its records have different lengths, or their fields are walked
abbrev pub RecordsComeTo : List ℕ → List ℕ → List Entry → Result (List Entry) DataRefusal → Type 0
RecordsComeTo name bytes known found =
    ((found ≡ Err (bad cause.Csv)) × AreUneven bytes) ⊎ ((rows : List Fields) × AreRows bytes rows × RowsComeTo name rows known found)

-- its name comes first, then whether it is new, then the bytes
abbrev pub NamedComesTo : Bool → Bool → List ℕ → List ℕ → List Entry → Result (List Entry) DataRefusal → Type 0
NamedComesTo false doubled name bytes known found = found ≡ Err (bad cause.Name)
NamedComesTo true true name bytes known found = found ≡ Err (bad cause.Doubled)
NamedComesTo true false name bytes known found = RecordsComeTo name bytes known found

-- by what stands before `.toml` and before `.csv`
abbrev pub EndingComesTo : Option (List ℕ) → Option (List ℕ) → List ℕ → List Entry → Result (List Entry) DataRefusal → Type 0
EndingComesTo (Some stem) csv bytes known found = DocumentComesTo bytes known found
EndingComesTo None (Some stem) bytes known found = NamedComesTo (is_name stem) (is_known stem known) stem bytes known found
EndingComesTo None None bytes known found = found ≡ Err (bad cause.Name)

-- the file of this path and these bytes, added to the tables that are known, comes to this
abbrev pub FileComesTo : List ℕ → List ℕ → List Entry → Result (List Entry) DataRefusal → Type 0
FileComesTo path bytes known found = EndingComesTo (stem_of (codes ".toml") (file_name path)) (stem_of (codes ".csv") (file_name path)) bytes known found

-- what a call answers, beside what it leaves; want of memory may come anywhere
abbrev pub Answers : {X A : Type 0} → (Result A DataRefusal → Type 0) → A → Result X DataRefusal → Type 0
Answers P after (Ok x) = P (Ok after)
Answers P after (Err refusal.OutOfMemory) = Unit {0}
Answers P after (Err (refusal.BadData c)) = P (Err (refusal.BadData c))
Answers P after (Err (refusal.Limit what number bound)) = P (Err (refusal.Limit what number bound))

-- what a call tells that had the memory: what it leaves, or why the file is refused
abbrev pub told_by : {X A : Type 0} → A → Result X DataRefusal → Result A DataRefusal
told_by after (Ok x) = Ok after
told_by after (Err e) = Err e
