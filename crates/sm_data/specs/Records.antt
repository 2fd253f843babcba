-- What a file of comma-separated fields holds: records without a header, and the numbers that their fields write.
use Rattle.std.specs.Prelude.{◌≡◌, ◌≢◌, ℕ, ℤ, List, [], ◌∷◌, ◌++◌, length, Option, Some, None, FitsSigned}
use Rattle.std.specs.Int.{w128}
use Rattle.std.specs.List.{AllByRecursion}
use Rattle.csv.specs.Reading.{AreRecords, Reached, default_config, strip_bom}
use Rattle.csv.specs.declared.error.ErrorKind.{ErrorKind}
use Rattle.csv.specs.declared.error.ErrorKind.TheVariants as kind
use Rattle.csv.specs.declared.parser.State.{State}
use Rattle.csv.specs.declared.parser.State.TheVariants as st
use Rattle.sm_base.specs.Whole.{whole_text}
use Rattle.sm_data.specs.Numbers.{bad}
use Rattle.sm_data.specs.declared.refusal.DataCause.TheVariants as cause
use Rattle.sm_data.specs.declared.refusal.DataRefusal.{DataRefusal}
use Rattle.sm_data.specs.declared.refusal.DataRefusal.TheVariants as refusal

-- the fields of a record
abbrev pub Fields : Type 0
Fields = List (List ℕ)

-- the rows have one length, which is this one where there is a row
abbrev pub HaveWidth : List Fields → Option ℕ → Type 0
HaveWidth [] width = width ≡ None
HaveWidth (r ∷ rs) width = (width ≡ Some (length r)) × AllByRecursion (λ x. length x ≡ length r) rs

-- these are the records of the bytes, all of one length
pub record AreRows (bytes : List ℕ) (rows : List Fields) : Type 0 where
  pub records : AreRecords default_config st.StartRecord (strip_bom bytes) rows
  pub width : Option ℕ
  pub even : HaveWidth rows width

-- some record of the bytes has another length than the first
pub record AreUneven (bytes : List ℕ) : Type 0 where
  pub first : Fields
  pub between : List Fields
  pub last : Fields
  pub state : State
  pub rest : List ℕ
  pub reached : Reached default_config st.StartRecord (strip_bom bytes) ((first ∷ between) ++ last ∷ []) state rest
  pub lengths : length first ≢ length last

-- what an error of the crate comes to
abbrev pub refusal_by : ErrorKind → DataRefusal
refusal_by (kind.UnequalLengths pos expected len) = bad cause.Csv
refusal_by _ = refusal.OutOfMemory

-- the number of 128 bits whose canonical text this is, if there is one
abbrev pub HasReading : List ℕ → Option ℤ → Type 0
HasReading text (Some z) = FitsSigned w128 z × (text ≡ whole_text z)
HasReading text None = (z : ℤ) → FitsSigned w128 z → text ≡ whole_text z → ⊥

-- each field is read so; each text has one reading
abbrev pub HaveReadings : Fields → List (Option ℤ) → Type 0
HaveReadings [] [] = Unit {0}
HaveReadings [] (r ∷ rs) = ⊥
HaveReadings (f ∷ fs) [] = ⊥
HaveReadings (f ∷ fs) (r ∷ rs) = HasReading f r × HaveReadings fs rs

abbrev pub RowsHaveReadings : List Fields → List (List (Option ℤ)) → Type 0
RowsHaveReadings [] [] = Unit {0}
RowsHaveReadings [] (rs ∷ rss) = ⊥
RowsHaveReadings (f ∷ fs) [] = ⊥
RowsHaveReadings (f ∷ fs) (rs ∷ rss) = HaveReadings f rs × RowsHaveReadings fs rss
