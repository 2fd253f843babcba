-- What clap makes of the end of the words.
use Rattle.std.proofs.Common.{◌≡◌, ◌∙◌, refl, ap, codes, Bool, true, false, ◌||◌, List, [], ◌∷◌, Option, Some, None, unwrap_or}
use Rattle.std.specs.Prelude.{if◌then◌else◌, option_and_then, slice_get}
use Rattle.std.specs.Option.{is_some}
use Rattle.clap.specs.Kinds.{Kinds, or_else}
use Rattle.clap.specs.Walk.{Held, Row, Rule, Walk, all_of, finished, has_row, settled, with_default}
use Rattle.clap.specs.Simple.{entered}
use Rattle.clap.specs.Faults.{check_fault, defaults_fault, entered_fault, settle_fault}
use Rattle.sm_arguments.specs.Request.{Word, asked_with}
use Rattle.sm_arguments.specs.App.{asked_by_rows, is_true, others_from}
use Rattle.sm_arguments.proofs.Built.{app, brief_rule, command_rule, files_rule, model_rule, rules, shape}
use Rattle.sm_arguments.proofs.Held.{HasViews, Holds, command_values, files_values, model_values}
use Rattle.sm_arguments.proofs.Views.{first_of-all_of, has_row-None, has_row-Some, put-new, put-other}

-- ---- faults

-- an argument with no default
no_default : (has : Bool) (ks : Kinds) (rows : List Row) (rest : List Rule)
    → or_else (if has || true then [] else ks) (defaults_fault (if has then rows else rows) rest) ≡ defaults_fault rows rest
no_default true ks rows rest = refl
no_default false ks rows rest = refl

defaults_pass : (rows : List Row) → defaults_fault rows rules ≡ []
unfolding defaults_fault
defaults_pass rows =
    no_default (has_row (codes "command") rows) _ rows (model_rule ∷ files_rule ∷ brief_rule ∷ [])
    ∙ no_default (has_row (codes "model") rows) _ rows (files_rule ∷ brief_rule ∷ [])
    ∙ no_default (has_row (codes "files") rows) _ rows (brief_rule ∷ [])
    ∙ elim (has_row (codes "brief") rows) as (λ has. or_else (if has || false then [] else []) [] ≡ []) [ true ↦ refl | false ↦ refl ]

-- behind a walk with no fault comes none
pub end_passes : (end : Walk) (walk_faults : Kinds) (brief : Bool) (others : List Word) → walk_faults ≡ [] → Holds end.held brief others → end.stopped ≡ None
    → or_else walk_faults (or_else (entered_fault app end.stopped) (or_else (settle_fault rules false end.held)
    (or_else (defaults_fault (settled rules end.held).rows rules) (check_fault shape (finished rules end.held) (is_some (entered app end.stopped)))))) ≡ []
end_passes end walk_faults brief others none s stopped = rw (none, stopped, s.settles, defaults_pass (settled rules end.held).rows) refl

-- ---- matches

either : {X : Type 0} (b : Bool) (x : X) → (if b then x else x) ≡ x
either true x = refl
either false x = refl

-- only the flag has a default
finished_rows : (rows : List Row) → with_default (with_default (with_default (with_default rows command_rule) model_rule) files_rule) brief_rule ≡ with_default rows brief_rule
finished_rows rows =
    ap (λ x. with_default (with_default (with_default x model_rule) files_rule) brief_rule) (either (has_row (codes "command") rows) rows)
    ∙ ap (λ x. with_default (with_default x files_rule) brief_rule) (either (has_row (codes "model") rows) rows)
    ∙ ap (λ x. with_default x brief_rule) (either (has_row (codes "files") rows) rows)

abbrev flag_text : Bool → Word
flag_text true = codes "true"
flag_text false = codes "false"

-- what is found at the end: the flag has a value in any case
record IsFound (rows : List Row) (brief : Bool) (others : List Word) : Type 0 where
  command : all_of (codes "command") rows ≡ command_values others
  model : all_of (codes "model") rows ≡ model_values others
  files : all_of (codes "files") rows ≡ files_values others
  flag : all_of (codes "brief") rows ≡ Some (flag_text brief ∷ [])

found_at_end : (rows : List Row) (brief : Bool) (others : List Word) → HasViews rows brief others → IsFound (with_default rows brief_rule) brief others
found_at_end rows true others v =
    rw (has_row-Some (codes "brief") rows _ v.flag) record { command = v.command; model = v.model; files = v.files; flag = v.flag }
found_at_end rows false others v =
    let none = has_row-None (codes "brief") rows v.flag in
    rw none record {
      command = put-other (codes "brief") _ _ (codes "false" ∷ []) (codes "command") rows refl ∙ v.command;
      model = put-other (codes "brief") _ _ (codes "false" ∷ []) (codes "model") rows refl ∙ v.model;
      files = put-other (codes "brief") _ _ (codes "false" ∷ []) (codes "files") rows refl ∙ v.files;
      flag = put-new (codes "brief") _ _ (codes "false" ∷ []) rows none;
    }

-- the first of the values, and all of them
abbrev first_value : Option (List Word) → Option Word
first_value o = option_and_then (λ vs. slice_get vs 0) o

or_none : Option (List Word) → List Word
or_none o = unwrap_or o []

flag_is : (brief : Bool) → is_true (first_value (Some (flag_text brief ∷ []))) ≡ brief
flag_is true = refl
flag_is false = refl

same_request : (brief : Bool) (others : List Word)
    → asked_with (others_from (first_value (command_values others)) (first_value (model_values others)) (or_none (files_values others))) (Some brief) ≡ asked_with others (Some brief)
unfolding or_none
same_request brief [] = refl
same_request brief (command ∷ []) = refl
same_request brief (command ∷ model ∷ []) = refl
same_request brief (command ∷ model ∷ file ∷ files) = refl

asked_by_found : (rows : List Row) (brief : Bool) (others : List Word) → IsFound rows brief others → asked_by_rows rows ≡ asked_with others (Some brief)
unfolding or_none
asked_by_found rows brief others found =
    let command_is = first_of-all_of (codes "command") rows ∙ ap first_value found.command in
    let model_is = first_of-all_of (codes "model") rows ∙ ap first_value found.model in
    let given_is = ap is_true (first_of-all_of (codes "brief") rows ∙ ap first_value found.flag) ∙ flag_is brief in
    (λ i. asked_with (others_from (command_is i) (model_is i) (or_none (found.files i))) (Some (given_is i))) ∙ same_request brief others

pub asked_at_end : (h : Held) (brief : Bool) (others : List Word) → Holds h brief others → asked_by_rows (finished rules h) ≡ asked_with others (Some brief)
asked_at_end h brief others s =
    ap asked_by_rows (finished_rows (settled rules h).rows) ∙ asked_by_found _ brief others (found_at_end (settled rules h).rows brief others s.views)
