-- A reader that keeps its first fault: where it stands, and what a step takes.
use Rattle.std.specs.Prelude.{◌≡◌, ◌++◌, ℕ, List, [], codes, Bool, true, false, Option, Some, None, Result, Ok, Err, IsOk}
use Rattle.sm_step.specs.declared.refusal.LineRefusal.{LineRefusal}
use Rattle.sm_step.specs.declared.refusal.LineRefusal.TheVariants.{BadLine, OutOfMemory}
use Rattle.sm_step.specs.Reading.{Reads}

-- the text that is still to come, or the first fault
abbrev pub Place : Type 0
Place = Result (List ℕ) LineRefusal

abbrev pub place : Option LineRefusal → List ℕ → Place
place None rest = Ok rest
place (Some fault) rest = Err fault

-- another fault leaves the first as it is
abbrev pub failed : LineRefusal → Place → Place
failed fault (Ok bytes) = Err fault
failed fault (Err first) = Err first

abbrev pub accepts : (List ℕ → Option (List ℕ)) → List ℕ → Place → Bool → Place → Type 0
accepts front text (Ok bytes) true (Ok rest) = (front bytes ≡ Some rest) × (bytes ≡ text ++ rest)
accepts front text (Ok bytes) true (Err fault) = ⊥
accepts front text (Ok bytes) false new = (front bytes ≡ None) × (new ≡ Ok bytes)
accepts front text (Err fault) true new = ⊥
accepts front text (Err fault) false new = new ≡ Err fault

-- the text is passed over exactly where it comes next
pub record Accepts (front : List ℕ → Option (List ℕ)) (text : List ℕ) (old : Place) (taken : Bool) (new : Place) : Type 0 where
  pub is : accepts front text old taken new

abbrev pub passes : (List ℕ → Option (List ℕ)) → List ℕ → Place → Place → Type 0
passes front text (Ok bytes) (Ok rest) = (front bytes ≡ Some rest) × (bytes ≡ text ++ rest)
passes front text (Ok bytes) (Err BadLine) = front bytes ≡ None
passes front text (Ok bytes) (Err OutOfMemory) = ⊥
passes front text (Err fault) new = new ≡ Err fault

-- the text is passed over where it comes next, and else the line is bad
pub record Passes (front : List ℕ → Option (List ℕ)) (text : List ℕ) (old new : Place) : Type 0 where
  pub is : passes front text old new

abbrev pub takes : {X : Type 0} → Reads X → List ℕ → Place → X → Place → Type 0
takes reading text (Ok bytes) x (Ok rest) = (reading bytes ≡ Some (x, rest)) × (bytes ≡ text ++ rest)
takes reading text (Ok bytes) x (Err BadLine) = reading bytes ≡ None
takes reading text (Ok bytes) x (Err OutOfMemory) = Unit {0}
takes reading text (Err fault) x new = new ≡ Err fault

-- what is read has this text; a bad line is no such text; a fault stays
pub record Takes {X : Type 0} (reading : Reads X) (text : List ℕ) (old : Place) (x : X) (new : Place) : Type 0 where
  pub is : takes reading text old x new

-- the same behind a word that was passed over
pub record TakesBehind {X : Type 0} (word : List ℕ) (reading : Reads X) (text : List ℕ) (old : Place) (x : X) (new : Place) : Type 0 where
  pub others : List ℕ
  pub same : IsOk new → word ++ others ≡ text
  pub taken : Takes reading others old x new
