-- One tuple of a sum.
use Rattle.std.specs.Prelude.{Bool, if◌then◌else◌, List, map}
use Rattle.std.specs.List.{filter}
use Rattle.sm_syntax.specs.Expressions.{Expression, Binding, binding, Comparisons}
use Rattle.sm_forms.specs.Meanings.{Meaning}
use Rattle.sm_meaning.specs.Trials.{Trial, ◌▸◌, nothing_tried, visit}
use Rattle.sm_meaning.specs.Scopes.{Names, Tuple, Scope}
use Rattle.sm_meaning.specs.Worths.{plus, worth, all_pass}
use Rattle.sm_meaning.specs.ExpressionTrials.{value_tried}

-- what is so far, with the part of a tuple that passes
abbrev pub counted : Bool → Meaning → Meaning → Meaning
counted pass g h = if pass then plus g h else g

abbrev pub tuple_tried : Trial → Bool → Trial → Scope → Meaning → Meaning → Trial
tuple_tried tests pass part s g h = visit ▸ tests ▸ (if pass then part ▸ value_tried s (plus g h) else nothing_tried)

-- the tests of binders
abbrev pub tests_in : Binding → Comparisons
tests_in (binding p x xs ts) = ts

-- the parts of the tuples that pass
abbrev pub part_worths : Expression → Comparisons → Names → List Tuple → List Meaning
part_worths x ts names cs = map (λ c. worth x names c) (filter (λ c. all_pass ts names c) cs)
