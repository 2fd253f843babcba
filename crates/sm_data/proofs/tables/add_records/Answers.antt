use Rattle.std.proofs.Common.{◌≡◌, ◌∙◌, ap, sym, refl, true, false, ℕ, List, map}
use Rattle.sm_words.specs.Names.{is_name}
use Rattle.sm_data.specs.Documents.{is_known}
use Rattle.sm_data.specs.Files.{entry_view, NamedComesTo, RecordsComeTo}
use Rattle.sm_data.proofs.Entries.{looked_up, answers_also, named_records}
use Rattle.sm_data.proofs.tables.add_records.Goals as goal

pub returns-then-contains_key-clause-file : goal.returns-then-contains_key-clause-file
returns-then-contains_key-clause-file c =
    let es = c.args.entries.now.entries in
    let named : is_name c.args.stem.now ≡ true = c.in-Some.ensures.0 in
    let old : is_known c.args.stem.now (map entry_view es) ≡ true =
    ap (λ (n : List ℕ). is_known n (map entry_view es)) (sym c.in-Some.ensures.1) ∙ sym (looked_up c.in-Some.name.now es) ∙ sym c.contains_key.ensures ∙ c.if-contains_key.true in
    rw (named, old) refl

pub add_rows-requires : goal.add_rows-requires
add_rows-requires c = sym (looked_up c.in-Some.name.now c.args.entries.now.entries) ∙ sym c.contains_key.ensures ∙ c.if-contains_key.false

pub returns-clause-file : goal.returns-clause-file
returns-clause-file c =
    let es = c.args.entries.now.entries in
    let stem = c.args.stem.now in
    let bytes = c.args.bytes.now in
    let known = map entry_view es in
    let named : is_name stem ≡ true = c.in-Some.ensures.0 in
    let new : is_known stem known ≡ false =
    ap (λ (n : List ℕ). is_known n known) (sym c.in-Some.ensures.1) ∙ sym (looked_up c.in-Some.name.now es) ∙ sym c.contains_key.ensures ∙ c.if-contains_key.false in
    answers_also (RecordsComeTo c.in-Some.name.now bytes known) (NamedComesTo (is_name stem) (is_known stem known) stem bytes known) (map entry_view c.add_rows.new.entries.entries) c.add_rows.result
    (λ found h. named_records c.in-Some.name.now stem bytes known found c.in-Some.ensures.1 named new h) c.add_rows.ensures.file
