use Rattle.std.proofs.Common.{◌≡◌, ℤ, List, Option, drop, map}
use Rattle.csv.specs.Records.{fields_of}
use Rattle.sm_data.specs.Numbers.{each, number_of, with_front}
use Rattle.sm_data.specs.Records.{RowsHaveReadings}
use Rattle.sm_data.proofs.records.grid.Given as goal

-- the rows so far, and those to come
abbrev pub invariant-loop-row : goal.invariant-loop-row
invariant-loop-row l = (rss : List (List (Option ℤ))) → RowsHaveReadings (map fields_of l.rows) rss → with_front l.grid (each (each number_of) (drop l.row-index rss)) ≡ each (each number_of) rss
