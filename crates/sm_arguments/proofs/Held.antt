-- What clap holds between two words, and what is found in it.
use Rattle.std.proofs.Common.{◌≡◌, ◌∙◌, refl, codes, Bool, true, false, ℕ, List, [], ◌∷◌, ◌++◌, Option, Some, None}
use Rattle.clap.specs.Walk.{Held, Row, all_of, nothing_held, reacted, settled, used}
use Rattle.clap.specs.Faults.{react_fault, settle_fault}
use Rattle.sm_arguments.specs.Request.{Word}
use Rattle.sm_arguments.proofs.Built.{command_rule, model_rule, files_rule, brief_rule, rules}
use Rattle.sm_arguments.proofs.Views.{has_row-None, put-more, put-new, put-other, without-missing}

-- the values of each argument, by the words that are neither options nor the end of these
abbrev pub command_values : List Word → Option (List Word)
command_values [] = None
command_values (command ∷ ws) = Some (command ∷ [])

abbrev pub model_values : List Word → Option (List Word)
model_values [] = None
model_values (command ∷ []) = None
model_values (command ∷ model ∷ files) = Some (model ∷ [])

abbrev pub some_files : List Word → Option (List Word)
some_files [] = None
some_files (file ∷ files) = Some (file ∷ files)

abbrev pub files_values : List Word → Option (List Word)
files_values [] = None
files_values (command ∷ []) = None
files_values (command ∷ model ∷ files) = some_files files

abbrev pub flag_values : Bool → Option (List Word)
flag_values true = Some (codes "true" ∷ [])
flag_values false = None

-- the rows hold these words, and the flag where it was met
pub record HasViews (rows : List Row) (brief : Bool) (others : List Word) : Type 0 where
  pub command : all_of (codes "command") rows ≡ command_values others
  pub model : all_of (codes "model") rows ≡ model_values others
  pub files : all_of (codes "files") rows ≡ files_values others
  pub flag : all_of (codes "brief") rows ≡ flag_values brief

-- the same of what is held, of which no fault is known
pub record Holds (h : Held) (brief : Bool) (others : List Word) : Type 0 where
  pub skip : h.skip ≡ 0
  pub settles : settle_fault rules false h ≡ []
  pub views : HasViews (settled rules h).rows brief others

-- ---- one more use

command_used : (rows : List Row) (brief : Bool) (w : Word) → HasViews rows brief [] → HasViews (used command_rule (w ∷ []) rows) brief (w ∷ [])
command_used rows brief w v =
    let none = has_row-None (codes "command") rows v.command in
    rw (without-missing (codes "command") rows none) record {
      command = put-new (codes "command") _ _ (w ∷ []) rows none;
      model = put-other (codes "command") _ _ (w ∷ []) (codes "model") rows refl ∙ v.model;
      files = put-other (codes "command") _ _ (w ∷ []) (codes "files") rows refl ∙ v.files;
      flag = put-other (codes "command") _ _ (w ∷ []) (codes "brief") rows refl ∙ v.flag;
    }

model_used : (rows : List Row) (brief : Bool) (command w : Word) → HasViews rows brief (command ∷ []) → HasViews (used model_rule (w ∷ []) rows) brief (command ∷ w ∷ [])
model_used rows brief command w v =
    let none = has_row-None (codes "model") rows v.model in
    rw (without-missing (codes "model") rows none) record {
      command = put-other (codes "model") _ _ (w ∷ []) (codes "command") rows refl ∙ v.command;
      model = put-new (codes "model") _ _ (w ∷ []) rows none;
      files = put-other (codes "model") _ _ (w ∷ []) (codes "files") rows refl ∙ v.files;
      flag = put-other (codes "model") _ _ (w ∷ []) (codes "brief") rows refl ∙ v.flag;
    }

more_files : (rows : List Row) (files : List Word) (w : Word) → all_of (codes "files") rows ≡ some_files files
    → all_of (codes "files") (used files_rule (w ∷ []) rows) ≡ some_files (files ++ w ∷ [])
more_files rows [] w e = put-new (codes "files") _ _ (w ∷ []) rows (has_row-None (codes "files") rows e)
more_files rows (file ∷ files) w e = put-more (codes "files") _ _ (w ∷ []) rows (file ∷ files) e

files_used : (rows : List Row) (brief : Bool) (command model : Word) (files : List Word) (w : Word) → HasViews rows brief (command ∷ model ∷ files)
    → HasViews (used files_rule (w ∷ []) rows) brief (command ∷ model ∷ files ++ w ∷ [])
files_used rows brief command model files w v = record {
  command = put-other (codes "files") _ _ (w ∷ []) (codes "command") rows refl ∙ v.command;
  model = put-other (codes "files") _ _ (w ∷ []) (codes "model") rows refl ∙ v.model;
  files = more_files rows files w v.files;
  flag = put-other (codes "files") _ _ (w ∷ []) (codes "brief") rows refl ∙ v.flag;
}

flag_used : (rows : List Row) (others : List Word) → HasViews rows false others → HasViews (used brief_rule [] rows) true others
flag_used rows others v =
    let none = has_row-None (codes "brief") rows v.flag in
    rw (without-missing (codes "brief") rows none) record {
      command = put-other (codes "brief") _ _ (codes "true" ∷ []) (codes "command") rows refl ∙ v.command;
      model = put-other (codes "brief") _ _ (codes "true" ∷ []) (codes "model") rows refl ∙ v.model;
      files = put-other (codes "brief") _ _ (codes "true" ∷ []) (codes "files") rows refl ∙ v.files;
      flag = put-new (codes "brief") _ _ (codes "true" ∷ []) rows none;
    }

-- ---- what is held after one more word

pub nothing_holds : Holds nothing_held false []
nothing_holds = record { skip = refl; settles = refl; views = record { command = refl; model = refl; files = refl; flag = refl } }

-- the argument to which a word goes that is no option, by the words before it
abbrev pub place : List Word → ℕ
place [] = 1
place (command ∷ []) = 2
place (command ∷ model ∷ files) = 3

abbrev pub id_at : List Word → Word
id_at [] = codes "command"
id_at (command ∷ []) = codes "model"
id_at (command ∷ model ∷ files) = codes "files"

abbrev pub with_word : Held → List Word → Word → Held
with_word h others w = record (settled rules h) { pending = Some (id_at others, w ∷ []) }

pub word_holds : (h : Held) (brief : Bool) (others : List Word) (w : Word) → Holds h brief others → Holds (with_word h others w) brief (others ++ w ∷ [])
word_holds h brief [] w s = record {
  skip = s.skip;
  settles = rw (has_row-None (codes "command") (settled rules h).rows s.views.command) refl;
  views = command_used (settled rules h).rows brief w s.views;
}
word_holds h brief (command ∷ []) w s = record {
  skip = s.skip;
  settles = rw (has_row-None (codes "model") (settled rules h).rows s.views.model) refl;
  views = model_used (settled rules h).rows brief command w s.views;
}
word_holds h brief (command ∷ model ∷ files) w s = record {
  skip = s.skip;
  settles = refl;
  views = files_used (settled rules h).rows brief command model files w s.views;
}

pub flag_holds : (h : Held) (others : List Word) → Holds h false others → Holds (reacted rules brief_rule [] h) true others
flag_holds h others s = record { skip = s.skip; settles = refl; views = flag_used (settled rules h).rows others s.views }

-- the first use of the flag has no fault, and a second one has
pub flag_passes : (h : Held) (others : List Word) → Holds h false others → react_fault rules false brief_rule [] h ≡ []
flag_passes h others s = rw (s.settles, has_row-None (codes "brief") (settled rules h).rows s.views.flag) refl
