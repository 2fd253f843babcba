use Rattle.std.proofs.Common.{rules, ◌≡◌, ◌∙◌, ap, sym, true, false, ℕ, List, map, string_bytes, Ok}
use Rattle.std.proofs.lemmas.Result.{err_from_is_err_and}
use Rattle.toml.specs.View.{view}
use Rattle.sm_words.specs.Names.{is_name}
use Rattle.sm_data.specs.Documents.{Entry, is_known}
use Rattle.sm_data.specs.Files.{entry_view}
use Rattle.sm_data.proofs.Entries.{looked_up, doubled_is, refused_in, added_is, view_push}
use Rattle.sm_data.proofs.tables.add_member.Goals as goal

pub returns-then-contains_key-clause-gives : goal.returns-then-contains_key-clause-gives
returns-then-contains_key-clause-gives c =
    let es = c.args.entries.now.entries in
    let named : is_name (string_bytes c.args.name) ≡ true = search rules in
    let old : is_known (string_bytes c.args.name) (map entry_view es) ≡ true =
    ap (λ (n : List ℕ). is_known n (map entry_view es)) (sym c.as_str.ensures.value) ∙ sym (looked_up c.as_str.result.now es) ∙ sym c.contains_key.ensures ∙ c.if-contains_key.true in
    doubled_is (string_bytes c.args.name) (view c.args.value.now) (map entry_view es) named old

pub returns-in_err-table-clause-gives : goal.returns-in_err-table-clause-gives
returns-in_err-table-clause-gives c =
    let es = c.args.entries.now.entries in
    let named : is_name (string_bytes c.args.name) ≡ true = search rules in
    let new : is_known (string_bytes c.args.name) (map entry_view es) ≡ false =
    ap (λ (n : List ℕ). is_known n (map entry_view es)) (sym c.as_str.ensures.value) ∙ sym (looked_up c.as_str.result.now es) ∙ sym c.contains_key.ensures ∙ c.if-contains_key.false in
    let p = err_from_is_err_and c.from_residual.result c.from_residual.ensures.1 in
    rw (p.1, p.2) (refused_in c.in_err-table.field-0.0 (string_bytes c.args.name) (view c.args.value.now) (map entry_view es) named new c.in_err-table.ensures)

pub insert-requires : goal.insert-requires
insert-requires c =
    let es = c.args.entries.now.entries in
    ap (λ (n : List ℕ). is_known n (map entry_view es)) (sym c.as_str.ensures.value) ∙ sym (looked_up c.as_str.result.now es) ∙ sym c.contains_key.ensures ∙ c.if-contains_key.false

pub returns-in-Ok-clause-gives : goal.returns-in-Ok-clause-gives
returns-in-Ok-clause-gives c =
    let es = c.args.entries.now.entries in
    let named : is_name (string_bytes c.args.name) ≡ true = search rules in
    let new : is_known (string_bytes c.args.name) (map entry_view es) ≡ false =
    ap (λ (n : List ℕ). is_known n (map entry_view es)) (sym c.as_str.ensures.value) ∙ sym (looked_up c.as_str.result.now es) ∙ sym c.contains_key.ensures ∙ c.if-contains_key.false in
    added_is (string_bytes c.args.name) (view c.args.value.now) (map entry_view es) c.in_ok-table.table named new c.in_ok-table.ensures
    ∙ ap (λ (xs : List Entry). Ok xs) (sym (ap (map entry_view) c.in-Ok.ensures.ok ∙ view_push es c.args.name c.in_ok-table.table))
