use Rattle.std.proofs.Common.{rules, ◌≡◌, ◌∙◌, ap, map, List}
use Rattle.sm_data.specs.Documents.{Entry}
use Rattle.sm_data.specs.Files.{entry_view, table_of}
use Rattle.sm_data.proofs.Entries.{found_at}
use Rattle.sm_data.proofs.tables.Tables.get.Goals as goal

pub returns : goal.returns
returns c =
    let seen : map entry_view c.self.inside.entries.entries ≡ c.args.self.now = search rules in
    c.get.ensures.value ∙ found_at c.args.name.now c.self.inside.entries.entries ∙ ap (λ (es : List Entry). table_of es c.args.name.now) seen
