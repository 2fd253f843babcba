use Rattle.std.proofs.Common.{rules, ◌≡◌, subst, List, map, codes, None, Some}
use Rattle.sm_words.specs.Names.{is_name}
use Rattle.sm_data.specs.Paths.{file_name, stem_of}
use Rattle.sm_data.specs.Documents.{is_known, Entry}
use Rattle.sm_data.specs.Files.{entry_view, Answers, NamedComesTo, FileComesTo}
use Rattle.sm_data.proofs.Entries.{answers_also, csv_file}
use Rattle.sm_data.proofs.tables.Tables.add.Goals as goal

pub returns-in-Some-clause-file : goal.returns-in-Some-clause-file
returns-in-Some-clause-file c =
    let path = c.args.name.now in
    let bytes = c.args.bytes.now in
    let stem = c.in-Some.stem.now in
    let known = map entry_view c.self.inside.entries.entries in
    let toml : stem_of (codes ".toml") (file_name path) ≡ None = search rules in
    let csv : stem_of (codes ".csv") (file_name path) ≡ Some stem = search rules in
    let seen : known ≡ c.args.self.now = search rules in
    subst (λ (es : List Entry). Answers (FileComesTo path bytes es) (map entry_view c.add_records.new.entries.entries) c.add_records.result) seen
    (answers_also (NamedComesTo (is_name stem) (is_known stem known) stem bytes known) (FileComesTo path bytes known) (map entry_view c.add_records.new.entries.entries) c.add_records.result
    (λ found h. csv_file path bytes stem known found toml csv h) c.add_records.ensures.file)
