use Rattle.std.proofs.Common.{rules, ◌≡◌, ◌∙◌, sym, subst, Some, None, map, ap, ap₂}
use Rattle.toml.specs.Data.{as_array, as_integer}
use Rattle.toml.specs.View.{view, items_view}
use Rattle.sm_data.specs.Numbers.{Gives}
use Rattle.sm_data.specs.Documents.{array_in, table_from}
use Rattle.sm_data.proofs.Arrays.{data_in-view}
use Rattle.sm_data.proofs.documents.table.Goals as goal

pub returns-in-Some : goal.returns-in-Some
returns-in-Some c =
    let plain : as_integer (view c.args.value.now) ≡ None = search rules in
    let is : as_array (view c.args.value.now) ≡ Some (items_view c.in-Some.values.now.items) = search rules in
    subst (Gives (λ t. t) c.array.result)
    (ap (λ vs. array_in (map view vs)) c.as_slice.ensures.value ∙ sym (ap₂ table_from plain is ∙ ap array_in (data_in-view c.in-Some.values.now.items))) c.array.ensures
