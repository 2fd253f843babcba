-- The command once clap has filled in what it leaves out.
use Rattle.std.proofs.Common.{◌≡◌, refl, codes, Some, true, ℕ, List, [], ◌∷◌}
use Rattle.clap.specs.Walk.{Rule, Text}
use Rattle.clap.specs.Simple.{App, Shape, built, new_rule, new_shape}
use Rattle.clap.specs.declared.builder.action.ArgAction.{ArgAction}
use Rattle.clap.specs.declared.builder.action.ArgAction.TheVariants.{Set, Append, SetTrue}
use Rattle.clap.specs.declared.builder.value_parser.ValueParser.TheVariants as parser
use Rattle.sm_arguments.specs.App.{simpl}

abbrev pub positional_rule : Text → ℕ → ArgAction → Rule
positional_rule id index action = record (new_rule id) {
  index = Some index;
  action = Some action;
  range = Some (record { start_inclusive = 1; end_inclusive = 1 });
  parser = Some parser.String;
}

abbrev pub command_rule : Rule
command_rule = positional_rule (codes "command") 1 Set

abbrev pub model_rule : Rule
model_rule = positional_rule (codes "model") 2 Set

abbrev pub files_rule : Rule
files_rule = positional_rule (codes "files") 3 Append

abbrev pub brief_rule : Rule
brief_rule = record (new_rule (codes "brief")) {
  long = Some (codes "brief");
  action = Some SetTrue;
  range = Some (record { start_inclusive = 0; end_inclusive = 0 });
  defaults = codes "false" ∷ [];
  missing = codes "true" ∷ [];
  parser = Some parser.Bool;
}

abbrev pub rules : List Rule
rules = command_rule ∷ model_rule ∷ files_rule ∷ brief_rule ∷ []

abbrev pub shape : Shape
shape = record (new_shape (codes "simpl")) {
  rules = rules;
  no_binary_name = true;
  disable_help_flag = true;
  disable_help_subcommand = true;
  disable_version_flag = true;
  is_built = true;
}

abbrev pub app : App
app = record { top = shape; subs = [] }

pub built-simpl : built simpl ≡ app
built-simpl = refl
