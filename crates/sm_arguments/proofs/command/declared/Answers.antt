-- The command's app is the declared one: each builder's clause, one after another.
use Rattle.std.proofs.Common.{ap, ap₂, ◌≡◌, ◌∙◌, Some, true, codes, Bool}
use Rattle.std.proofs.lemmas.Result.{IfOk-weaker}
use Rattle.clap.specs.declared.builder.Arg.{Arg}
use Rattle.clap.specs.declared.builder.ArgAction.TheVariants.{Append, SetTrue}
use Rattle.clap.specs.Words.{Rule}
use Rattle.clap.specs.Words.{App, Text, app_of, rule_of, new_app, with_rule}
use Rattle.clap.specs.Simple.{app_of_fields}
use Rattle.sm_arguments.specs.App.{command_rule, model_rule, files_rule, brief_rule}
use Rattle.sm_arguments.proofs.command.declared.Goals as goal

abbrev no_name : App → App
no_name a = record a { top = record a.top { no_binary_name = true } }

abbrev no_help : App → App
no_help a = record a { top = record a.top { disable_help_flag = true } }

abbrev no_version : App → App
no_version a = record a { top = record a.top { disable_version_flag = true } }

abbrev is_global : Arg → Bool
is_global a = a.global

abbrev appending : Rule → Rule
appending r = record r { action = Some Append }

abbrev setting : Rule → Rule
setting r = record r { action = Some SetTrue }

abbrev named : Text → Rule → Rule
named name r = record r { long = Some name }

pub returns : goal.returns
returns c =
    let plain_is : app_of c.disable_version_flag.result ≡ no_version (no_help (no_name (new_app (codes "simpl"))))
    = ap app_of_fields c.disable_version_flag.ensures
    ∙ ap no_version (ap app_of_fields c.disable_help_flag.ensures
    ∙ ap no_help (ap app_of_fields c.no_binary_name.ensures ∙ ap no_name c.new.ensures.app)) in
    let files_is : rule_of c.action.result ≡ files_rule = ap rule_of c.action.ensures ∙ ap appending c.new-4.ensures.rule in
    let brief_is : rule_of c.action-2.result ≡ brief_rule
    = ap rule_of c.action-2.ensures ∙ ap setting (ap rule_of c.long.ensures ∙ ap (named (codes "brief")) c.new-5.ensures.rule) in
    let before : app_of c.in_ok-arg-3.field-0 ≡ with_rule (with_rule (with_rule (no_version (no_help (no_name (new_app (codes "simpl"))))) command_rule) model_rule) files_rule
    = c.in_ok-arg-3.ensures.shape (ap is_global c.action.ensures ∙ c.new-4.ensures.optional.1) ∙ ap₂ with_rule
    (c.in_ok-arg-2.ensures.shape c.new-3.ensures.optional.1 ∙ ap₂ with_rule
    (c.in_ok-arg.ensures.shape c.new-2.ensures.optional.1 ∙ ap₂ with_rule plain_is c.new-2.ensures.rule) c.new-3.ensures.rule) files_is in
    IfOk-weaker c.arg-4.result _ _
    (λ r h. h.shape (ap is_global c.action-2.ensures ∙ ap is_global c.long.ensures ∙ c.new-5.ensures.optional.1) ∙ ap₂ with_rule before brief_is) c.arg-4.ensures
