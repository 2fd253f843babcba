-- The command line that the program declares, as clap's definitions see it, and what its matches ask for.
use Rattle.std.specs.Prelude.{codes, Option, Some, None, Bool, true, false, List, [], ◌∷◌, unwrap_or}
use Rattle.std.specs.Str.{bytes_eq}
use Rattle.clap.specs.Words.{App, Row, Rule, Text, all_of, first_of, new_app, new_rule}
use Rattle.clap.specs.declared.builder.ArgAction.TheVariants.{Append, SetTrue}
use Rattle.sm_arguments.specs.Request.{Asked, asked_with}

abbrev pub command_rule : Rule
command_rule = new_rule (codes "command")

abbrev pub model_rule : Rule
model_rule = new_rule (codes "model")

abbrev pub files_rule : Rule
files_rule = record (new_rule (codes "files")) { action = Some Append }

abbrev pub brief_rule : Rule
brief_rule = record (new_rule (codes "brief")) { long = Some (codes "brief"); action = Some SetTrue }

abbrev pub rules : List Rule
rules = command_rule ∷ model_rule ∷ files_rule ∷ brief_rule ∷ []

abbrev pub simpl : App
simpl = record (new_app (codes "simpl")) {
  top = record (new_app (codes "simpl")).top {
    rules = rules;
    no_binary_name = true;
    disable_help_flag = true;
    disable_version_flag = true;
  };
}

-- ---- what its matches say

-- the values of the files
abbrev pub files_in : List Row → List Text
files_in rows = unwrap_or (all_of (codes "files") rows) []

-- whether a flag was given: its value is then `true`
abbrev pub is_true : Option Text → Bool
is_true None = false
is_true (Some word) = bytes_eq word (codes "true")

abbrev pub is_given : Text → List Row → Bool
is_given id rows = is_true (first_of id rows)

-- the command, the model and the other files, if both are there
abbrev pub others_from : Option Text → Option Text → List Text → List Text
others_from (Some command) (Some model) files = command ∷ model ∷ files
others_from _ _ files = []

-- what the matches ask for
abbrev pub asked_by_rows : List Row → Option Asked
asked_by_rows rows = asked_with (others_from (first_of (codes "command") rows) (first_of (codes "model") rows) (files_in rows))
    (Some (is_given (codes "brief") rows))
