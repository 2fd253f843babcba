use Rattle.std.proofs.Common.{rules, arith, ◌≡◌, ◌∙◌, sym, subst, Some, length, ap, nat_eq, false, List}
use Rattle.toml.specs.Data.{as_array}
use Rattle.toml.specs.View.{view, items_view}
use Rattle.toml.specs.declared.value.Value.{Value}
use Rattle.sm_data.specs.Numbers.{Gives, each}
use Rattle.sm_data.specs.Documents.{number_in}
use Rattle.sm_data.proofs.Arrays.{row_by, row_other}
use Rattle.sm_data.proofs.documents.row.Goals as goal

pub returns-then-len-width : goal.returns-then-len-width
returns-then-len-width c =
    let is : as_array (view c.args.value.now) ≡ Some (items_view c.in-Some.array.now.items) = search rules in
    let other : nat_eq (length c.in-Some.array.now.items) c.args.width ≡ false = grind arith in
    row_other c.args.width (view c.args.value.now) c.in-Some.array.now.items is other

pub returns : goal.returns
returns c =
    let is : as_array (view c.args.value.now) ≡ Some (items_view c.in-Some.array.now.items) = search rules in
    let long : length c.in-Some.array.now.items ≡ c.args.width = grind arith in
    subst (Gives (λ v. v) c.numbers.result)
    (ap (λ (vs : List Value). each (λ v. number_in (view v)) vs) c.as_slice.ensures.value ∙ sym (row_by c.args.width (view c.args.value.now) c.in-Some.array.now.items is long)) c.numbers.ensures
