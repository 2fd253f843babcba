-- What the words of a command line ask for.
use Rattle.std.specs.Prelude.{◌≡◌, ◌==◌, ◌&&◌, ℕ, length, codes, Option, Some, None, option_map, Bool, true, false, not, List, [], ◌∷◌, map, if◌then◌else◌, Result, Ok, Err}
use Rattle.std.specs.List.{list_any}
use Rattle.std.specs.Option.{option_map_or}
use Rattle.std.specs.Str.{bytes_eq}
use Rattle.sm_arguments.specs.declared.requests.Request.{Request}
use Rattle.sm_arguments.specs.declared.requests.Request.TheVariants as request
use Rattle.sm_arguments.specs.declared.refusal.RequestRefusal.{RequestRefusal}
use Rattle.sm_arguments.specs.declared.refusal.RequestRefusal.TheVariants as refusal

-- the bytes of a word
abbrev pub Word : Type 0
Word = List ℕ

-- what is asked for, without where the words lie
pub data Asked : Type 0 where
  solve : (model : Word) (data_files : List Word) (brief : Bool) → Asked
  check : (model : Word) (data_files : List Word) (log : Word) → Asked

-- ---- option words and other words

abbrev pub is_empty : Word → Bool
is_empty word = length word == 0

-- more than one byte, of which the first is `-` (45)
abbrev pub is_option : Word → Bool
is_option [] = false
is_option (b ∷ []) = false
is_option (b ∷ c ∷ bs) = b == 45

-- `--`, which ends the option words
abbrev pub is_end : Word → Bool
is_end word = bytes_eq word (codes "--")

-- the option words before the first `--`
abbrev pub options_in : List Word → List Word
options_in [] = []
options_in (w ∷ ws) = if is_end w then [] else (if is_option w then w ∷ options_in ws else options_in ws)

-- the other words, in their order, without the first `--`
abbrev pub others_in : List Word → List Word
others_in [] = []
others_in (w ∷ ws) = if is_end w then ws else (if is_option w then others_in ws else w ∷ others_in ws)

-- ---- what they ask for

-- whether `--brief` is among the option words, if it is there once at most, and no other is
abbrev pub brief_in : List Word → Option Bool
brief_in [] = Some false
brief_in (o ∷ []) = if bytes_eq o (codes "--brief") then Some true else None
brief_in (o ∷ p ∷ os) = None

-- the words before the last one, and the last
abbrev pub split_last : List Word → Option (List Word × Word)
split_last [] = None
split_last (w ∷ ws) = Some (option_map_or (λ parts. (w ∷ parts.0, parts.1)) (split_last ws) ([], w))

abbrev pub solve_of : Word → List Word → Bool → Option Asked
solve_of model files brief = Some (solve model files brief)

-- the last of the files is the log
abbrev pub check_of : Word → List Word → Option Asked
check_of model files = option_map (λ parts. check model parts.0 parts.1) (split_last files)

-- the option goes with `solve` alone
abbrev pub command_of : Word → Word → List Word → Bool → Option Asked
command_of command model files brief =
    if bytes_eq command (codes "solve") then solve_of model files brief
    else (if bytes_eq command (codes "check") && not brief then check_of model files else None)

-- what the other words ask for, with what the option words say
abbrev pub asked_with : List Word → Option Bool → Option Asked
asked_with (command ∷ model ∷ files) (Some brief) = if list_any is_empty (model ∷ files) then None else command_of command model files brief
asked_with _ _ = None

-- what the words ask for, or nothing
unfoldable pub asked_by : List Word → Option Asked
asked_by words = asked_with (others_in words) (brief_in (options_in words))

-- ---- what is answered

abbrev pub view : Request → Asked
view (request.Solve model data_files brief) = solve model.now (map (λ f. f.now) data_files.items) brief
view (request.Check model data_files log) = check model.now (map (λ f. f.now) data_files.items) log.now

-- what is asked for, or a usage refusal exactly where nothing is; want of memory may come anywhere
abbrev pub Answers : Result Request RequestRefusal → Option Asked → Type 0
Answers (Ok r) asked = asked ≡ Some (view r)
Answers (Err refusal.Usage) asked = asked ≡ None
Answers (Err refusal.OutOfMemory) asked = Unit {0}
