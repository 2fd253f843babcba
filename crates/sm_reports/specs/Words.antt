-- The words of causes.
use Rattle.std.specs.Prelude.{ℕ, List, codes}
use Rattle.sm_data.specs.declared.refusal.Counted.{Counted}
use Rattle.sm_data.specs.declared.refusal.Counted.TheVariants as counted
use Rattle.sm_data.specs.declared.refusal.DataCause.{DataCause}
use Rattle.sm_data.specs.declared.refusal.DataCause.TheVariants as cause
use Rattle.sm_meaning.specs.declared.refusal.Wrong.{Wrong}
use Rattle.sm_meaning.specs.declared.refusal.Wrong.TheVariants as wrong

-- what is wrong at a place of the text
abbrev pub wrong_word : Wrong → List ℕ
wrong_word wrong.Unknown = codes "unknown"
wrong_word wrong.Doubled = codes "doubled"
wrong_word wrong.Shape = codes "shape"
wrong_word wrong.Index = codes "index"
wrong_word wrong.Whole = codes "whole"
wrong_word wrong.Linear = codes "linear"
wrong_word wrong.Variable = codes "variable"
wrong_word wrong.Kind = codes "kind"
wrong_word wrong.Value = codes "value"
wrong_word wrong.Benders = codes "benders"

-- what is wrong with a data file
abbrev pub data_word : DataCause → List ℕ
data_word cause.Name = codes "name"
data_word cause.Toml = codes "toml"
data_word cause.Csv = codes "csv"
data_word cause.Shape = codes "shape"
data_word cause.Doubled = codes "doubled"

-- what a limit counts or measures
abbrev pub counted_word : Counted → List ℕ
counted_word counted.File = codes "file"
counted_word counted.Files = codes "files"
counted_word counted.Nesting = codes "nesting"
counted_word counted.Size = codes "size"
counted_word counted.Tuples = codes "tuples"
counted_word counted.Value = codes "value"
counted_word counted.Coefficient = codes "coefficient"
counted_word counted.Bound = codes "bound"
counted_word counted.Entry = codes "entry"
counted_word counted.Variables = codes "variables"
counted_word counted.Width = codes "width"
counted_word counted.Widths = codes "widths"
counted_word counted.Constraints = codes "constraints"
counted_word counted.Terms = codes "terms"
counted_word counted.Total = codes "total"
counted_word counted.Clauses = codes "clauses"
counted_word counted.Tasks = codes "tasks"
counted_word counted.Horizon = codes "horizon"
counted_word counted.Items = codes "items"
counted_word counted.Groups = codes "groups"
counted_word counted.Capacity = codes "capacity"
counted_word counted.Reals = codes "reals"
counted_word counted.Realrows = codes "realrows"
counted_word counted.Branch = codes "branch"
counted_word counted.Sub = codes "sub"
counted_word counted.Log = codes "log"
counted_word counted.Objectives = codes "objectives"
