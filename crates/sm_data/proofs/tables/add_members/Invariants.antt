use Rattle.std.proofs.Common.{◌≡◌, ◌++◌, List, String, map}
use Rattle.std.specs.declared.alloc.Global.{Global}
use Rattle.std.specs.BTreeMap.{btree_map_len}
use Rattle.toml.specs.View.{table_view}
use Rattle.sm_data.specs.declared.table.Table.{Table}
use Rattle.sm_data.specs.Documents.{entries_with}
use Rattle.sm_data.specs.Files.{entry_view}
use Rattle.sm_data.proofs.tables.add_members.Given as goal

-- the tables so far with those to come are those of the document, and the old ones stand in front
abbrev pub invariant-loop-name : goal.invariant-loop-name
invariant-loop-name l = record {
  whole : entries_with (map entry_view l.entries.entries) (table_view l.table) ≡ entries_with (map entry_view l.initial.entries.entries) (table_view l.initial.table);
  front : (more : List (String Global × Table)) × (l.entries.entries ≡ l.initial.entries.entries ++ more);
}

abbrev pub decreases-loop-name : goal.decreases-loop-name
decreases-loop-name l = btree_map_len l.table
