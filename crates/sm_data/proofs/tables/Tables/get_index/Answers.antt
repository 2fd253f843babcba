use Rattle.std.proofs.Common.{rules, ◌≡◌, ◌∙◌, ap, sym, map, take, slice_get, List, ℕ, Some, string_bytes}
use Rattle.sm_data.specs.Documents.{Entry, is_known}
use Rattle.sm_data.specs.Files.{entry_view}
use Rattle.sm_data.proofs.Entries.{new_at}
use Rattle.sm_data.proofs.tables.Tables.get_index.Goals as goal

pub returns-clause-new : goal.returns-clause-new
returns-clause-new c =
    let es = c.self.inside.entries.entries in
    let name = c.in_ok-name.name.now in
    let at : slice_get es c.args.index ≡ Some (name, c.in_ok-name.table.now) = search rules in
    let seen : map entry_view es ≡ c.args.self.now = search rules in
    ap (λ (n : List ℕ). is_known n (take c.args.index c.args.self.now)) c.as_str.ensures.value
    ∙ ap (λ (ts : List Entry). is_known (string_bytes name) (take c.args.index ts)) (sym seen)
    ∙ new_at es c.args.index (name, c.in_ok-name.table.now) c.as_slice.ensures.unique at
