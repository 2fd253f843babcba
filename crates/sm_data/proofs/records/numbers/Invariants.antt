use Rattle.std.proofs.Common.{◌≡◌, ℤ, List, Option, drop}
use Rattle.csv.specs.Records.{fields_of}
use Rattle.sm_data.specs.Numbers.{each, number_of, with_front}
use Rattle.sm_data.specs.Records.{HaveReadings}
use Rattle.sm_data.proofs.records.numbers.Given as goal

-- the numbers so far, and those of the fields to come
abbrev pub invariant-loop-field : goal.invariant-loop-field
invariant-loop-field l = record {
  same : l.field-iterator.row.now ≡ l.row;
  whole : (rs : List (Option ℤ)) → HaveReadings (fields_of l.row) rs → with_front l.numbers (each number_of (drop l.field-iterator.at rs)) ≡ each number_of rs;
}
