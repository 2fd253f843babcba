use Rattle.std.proofs.Common.{◌≡◌, ◌∙◌, sym, true, false, Result, Ok, Err, OnOk}
use Rattle.std.specs.Result.{is_err}
use Rattle.std.specs.String.{string_eq}
use Rattle.indexmap.specs.IndexMap.{insert_entry}
use Rattle.sm_data.proofs.Entries.{new_last}
use Rattle.sm_data.proofs.tables.insert.Goals as goal

on_ok : {T E : Type 0} (r : Result T E) (P : Type 0) → OnOk r P → is_err r ≡ false → P
on_ok (Ok x) P h e = h
on_ok (Err x) P h e = let wrong : true ≡ false = e in cc

pub returns-clause-ok : goal.returns-clause-ok
returns-clause-ok c =
    on_ok c.insert.result (c.insert.new.self.entries ≡ insert_entry string_eq c.args.entries.now.entries c.args.name c.args.table) c.insert.ensures.entries (sym c.is_err.ensures.value ∙ c.if-is_err.false)
    ∙ new_last c.args.name c.args.table c.args.entries.now.entries c.requires
