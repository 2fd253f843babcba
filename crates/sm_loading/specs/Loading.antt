-- What the files of a model come to: the tree of its text and the tables of its data files, or why they are refused.
use Rattle.std.specs.Prelude.{◌≡◌, ◌≤◌, ◌<◌, ◌⊎◌, ◌++◌, ℕ, ℤ, pos, List, [], ◌∷◌, length, Option, IfSome, Ok, Err}
use Rattle.sm_base.specs.Causes.{Rose}
use Rattle.sm_data.specs.declared.refusal.Counted.{Counted}
use Rattle.sm_data.specs.declared.refusal.Counted.TheVariants as counted
use Rattle.sm_data.specs.declared.refusal.DataRefusal.{DataRefusal}
use Rattle.sm_data.specs.declared.refusal.DataRefusal.TheVariants as refused
use Rattle.sm_data.specs.Documents.{Entry}
use Rattle.sm_data.specs.Files.{FileComesTo}
use Rattle.sm_syntax.specs.Trees.{Tree}
use Rattle.sm_syntax.specs.Models.{IsTreeOf, IsFirstBad, IsTooDeep}
use Rattle.sm_loading.specs.declared.refusal.LoadRefusal.{LoadRefusal}
use Rattle.sm_loading.specs.declared.refusal.LoadRefusal.TheVariants.{ReadFault, Limit, Syntax, Data, OutOfMemory}

-- ---- files

-- the bytes of each file by its name, where the shelf has it and tells them
abbrev pub Held : Type 0
Held = List ℕ → Option (List ℕ)

-- the bytes of a file that was read: those that the shelf tells, if it tells any, and no more than a file may have
pub record IsRead (held : Held) (name bytes : List ℕ) : Type 0 where
  pub same : IfSome (held name) (λ file. bytes ≡ file)
  pub within : length bytes ≤ 16777216

-- the same of each of these files
abbrev pub AreRead : Held → List (List ℕ) → List (List ℕ) → Type 0
AreRead held [] [] = Unit {0}
AreRead held (name ∷ names) (bytes ∷ contents) = IsRead held name bytes × AreRead held names contents
AreRead held names contents = ⊥

-- this holds of the bytes of the file, as they were read
pub record OfFile (held : Held) (name : List ℕ) (P : List ℕ → Type 0) : Type 0 where
  pub bytes : List ℕ
  pub read : IsRead held name bytes
  pub holds : P bytes

-- the file has more bytes than a file may have
abbrev pub IsTooLong : Held → List ℕ → Type 0
IsTooLong held name = IfSome (held name) (λ file. 16777216 < length file)

-- ---- what they come to

-- the grammar gives the text this tree, and no bracket of it is too deep
abbrev pub HasTree : Tree → List ℕ → Type 0
HasTree whole text = IsTreeOf text whole × (IsTooDeep text → ⊥)

-- the model file has this tree
abbrev pub IsModelOf : Held → List ℕ → Tree → Type 0
IsModelOf held model whole = OfFile held model (HasTree whole)

-- a data file, added to the tables that are known, leaves these
abbrev pub IsAdded : Held → List ℕ → List Entry → List Entry → Type 0
IsAdded held name known tables = OfFile held name (λ bytes. FileComesTo name bytes known (Ok tables))

-- files of these names and contents, added one after another to the tables that are known, leave these
abbrev pub TablesComeTo : List (List ℕ) → List (List ℕ) → List Entry → List Entry → Type 0
TablesComeTo [] [] known tables = tables ≡ known
TablesComeTo (name ∷ names) (bytes ∷ contents) known tables =
    (next : List Entry) × FileComesTo name bytes known (Ok next) × TablesComeTo names contents next tables
TablesComeTo names contents known tables = ⊥

-- the data files leave these tables
pub record LeaveTables (held : Held) (files : List (List ℕ)) (tables : List Entry) : Type 0 where
  pub contents : List (List ℕ)
  pub read : AreRead held files contents
  pub leave : TablesComeTo files contents [] tables

-- the files of a model come to this tree and these tables
pub record IsLoaded (held : Held) (model : List ℕ) (files : List (List ℕ)) (whole : Tree) (tables : List Entry) : Type 0 where
  pub few : length files ≤ 64
  pub has_tree : IsModelOf held model whole
  pub left : LeaveTables held files tables

-- ---- why they are refused

-- loading comes to the data file of this name and number: the model file has a tree, and the data files before this one
-- leave these tables
pub record Reaches (held : Held) (model : List ℕ) (files : List (List ℕ)) (name : List ℕ) (number : ℕ) (known : List Entry) : Type 0 where
  pub whole : Tree
  pub has_tree : IsModelOf held model whole
  pub before : List (List ℕ)
  pub later : List (List ℕ)
  pub split : files ≡ before ++ name ∷ later
  pub count : number ≡ length before
  pub left : LeaveTables held before known

-- loading comes to a data file that is too long
pub record ReachesLong (held : Held) (model : List ℕ) (files : List (List ℕ)) : Type 0 where
  pub name : List ℕ
  pub number : ℕ
  pub known : List Entry
  pub reaches : Reaches held model files name number known
  pub long : IsTooLong held name

-- loading comes to the data file of this number, and it is refused so
pub record ReachesRefused (held : Held) (model : List ℕ) (files : List (List ℕ)) (number : ℕ) (refusal : DataRefusal) : Type 0 where
  pub name : List ℕ
  pub known : List Entry
  pub reaches : Reaches held model files name number known
  pub refused : OfFile held name (λ bytes. FileComesTo name bytes known (Err refusal))

-- where this and that bound are told
abbrev pub Tells : ℕ → ℕ → ℤ → ℤ → Type 0
Tells n most found bound = (found ≡ pos n) × (bound ≡ pos most)

-- which limit is passed
abbrev pub IsLimitCause : Held → List ℕ → List (List ℕ) → ℤ → ℤ → Counted → Type 0
IsLimitCause held model files found bound counted.Files = Tells 65 64 found bound × (64 < length files)
IsLimitCause held model files found bound counted.File = Tells 16777217 16777216 found bound × (IsTooLong held model ⊎ ReachesLong held model files)
IsLimitCause held model files found bound counted.Nesting = Tells 65 64 found bound × OfFile held model IsTooDeep
IsLimitCause held model files found bound counted.Entry = (number : ℕ) × ReachesRefused held model files number (refused.Limit counted.Entry found bound)
IsLimitCause held model files found bound _ = ⊥

-- the first bad token of the text stands at this place, and no bracket is too deep
abbrev pub IsBadAt : ℕ → ℕ → List ℕ → Type 0
IsBadAt line column text = IsFirstBad text (record { line = line; column = column }) × (IsTooDeep text → ⊥)

-- why the files of a model aren't loaded; want of memory needs no cause
abbrev pub IsLoadCause : Held → List ℕ → List (List ℕ) → ℕ → ℕ → LoadRefusal → Type 0
IsLoadCause held model files before now ReadFault = Rose before now
IsLoadCause held model files before now (Limit what found bound) = IsLimitCause held model files found bound what
IsLoadCause held model files before now (Syntax line column) = OfFile held model (IsBadAt line column)
IsLoadCause held model files before now (Data file cause) = ReachesRefused held model files file (refused.BadData cause)
IsLoadCause held model files before now OutOfMemory = Unit {0}

-- what is told of the data file of this number, where it is refused so
abbrev pub told_of : ℕ → DataRefusal → LoadRefusal
told_of file (refused.BadData cause) = Data file cause
told_of file (refused.Limit what found bound) = Limit what found bound
told_of file refused.OutOfMemory = OutOfMemory

-- why a single file isn't read
abbrev pub IsReadingCause : Held → List ℕ → ℕ → ℕ → LoadRefusal → Type 0
IsReadingCause held name before now ReadFault = Rose before now
IsReadingCause held name before now (Limit counted.File found bound) = Tells 16777217 16777216 found bound × IsTooLong held name
IsReadingCause held name before now OutOfMemory = Unit {0}
IsReadingCause held name before now _ = ⊥
