-- Entries, of what an expression means.
use Rattle.std.specs.Prelude.{is_none, if◌then◌else◌}
use Rattle.sm_kinds.specs.declared.element.Entry.{Entry}
use Rattle.sm_kinds.specs.Vars.{is_real_kind}
use Rattle.sm_syntax.specs.declared.place.Place.{Place}
use Rattle.sm_forms.specs.Meanings.{Meaning, nowhere, is_constant, variable_of}
use Rattle.sm_meaning.specs.declared.refusal.Wrong.TheVariants.{Variable, Kind}
use Rattle.sm_meaning.specs.Refusals.{wrong_if}
use Rattle.sm_meaning.specs.Trials.{Trial, ◌▸◌, nothing_tried, tried}
use Rattle.sm_meaning.specs.Scopes.{Scope, count_of}
use Rattle.sm_meaning.specs.Cases.{or_zero, kind_at, entry_from}

-- what is tried behind the expression: nothing more of a number, and else that it is a variable with whole values
abbrev pub behind_entry : Scope → Place → Meaning → Trial
behind_entry s p g = if is_constant (count_of s) g then nothing_tried else (
    tried (wrong_if (is_none (variable_of (count_of s) g)) p Variable)
    ▸ tried (wrong_if (is_real_kind (kind_at s (or_zero (variable_of (count_of s) g)))) p Kind))

abbrev pub entry_meant : Scope → Meaning → Entry
entry_meant s g = entry_from (is_constant (count_of s) g) (g nowhere) (or_zero (variable_of (count_of s) g))
