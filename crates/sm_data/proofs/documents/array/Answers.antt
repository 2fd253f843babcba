use Rattle.std.proofs.Common.{rules, ◌≡◌, ◌∙◌, sym, subst, slice_get, Some, None, length, map, ap, ℕ}
use Rattle.std.proofs.lemmas.Result.{err_from_is_err_and}
use Rattle.toml.specs.Data.{as_array}
use Rattle.toml.specs.View.{view, items_view}
use Rattle.sm_data.specs.Numbers.{Gives}
use Rattle.sm_data.specs.Documents.{grid_in}
use Rattle.sm_data.proofs.Arrays.{list_fails, list_ok, grid_by}
use Rattle.sm_data.proofs.documents.array.Goals as goal

pub returns-in_err-numbers-in-None : goal.returns-in_err-numbers-in-None
returns-in_err-numbers-in-None c =
    let p = err_from_is_err_and c.from_residual.result c.from_residual.ensures.1 in
    let first : slice_get c.args.values.now 0 ≡ Some c.in-Some.first.now = search rules in
    let plain : as_array (view c.in-Some.first.now) ≡ None = search rules in
    rw (p.1, p.2) (list_fails c.in_err-numbers-in-None.field-0.0 c.args.values.now c.in-Some.first.now first plain c.in_err-numbers-in-None.ensures)

pub returns-in_ok-numbers-in-None : goal.returns-in_ok-numbers-in-None
returns-in_ok-numbers-in-None c =
    let first : slice_get c.args.values.now 0 ≡ Some c.in-Some.first.now = search rules in
    let plain : as_array (view c.in-Some.first.now) ≡ None = search rules in
    list_ok c.args.values.now c.in-Some.first.now c.in_ok-numbers-in-None.field-0 first plain c.in_ok-numbers-in-None.ensures

pub returns-in-Some-as_array : goal.returns-in-Some-as_array
returns-in-Some-as_array c =
    let first : slice_get c.args.values.now 0 ≡ Some c.in-Some.first.now = search rules in
    let is : as_array (view c.in-Some.first.now) ≡ Some (items_view c.in-Some-as_array.first.now.items) = search rules in
    let long : c.len.result ≡ length c.in-Some-as_array.first.now.items = search rules in
    subst (Gives (λ t. t) c.grid.result)
    (ap (λ (n : ℕ). grid_in n (map view c.args.values.now)) long ∙ sym (grid_by c.args.values.now c.in-Some.first.now c.in-Some-as_array.first.now.items first is)) c.grid.ensures
