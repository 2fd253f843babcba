-- The lines that tell what is wrong.
use Rattle.std.specs.Prelude.{ℕ, List, codes, ◌++◌, ℤ, pos}
use Rattle.sm_base.specs.Whole.{whole_text}
use Rattle.sm_data.specs.declared.refusal.Counted.{Counted}
use Rattle.sm_data.specs.declared.refusal.DataCause.{DataCause}
use Rattle.sm_data.specs.Paths.{file_name}
use Rattle.sm_meaning.specs.declared.refusal.Wrong.{Wrong}
use Rattle.sm_reports.specs.declared.error.ErrorLine.{ErrorLine}
use Rattle.sm_reports.specs.declared.error.ErrorLine.TheVariants.{Usage, Read, Memory, Syntax, Model, Data, Limit}
use Rattle.sm_reports.specs.Words.{wrong_word, data_word, counted_word}

-- a line and a column
abbrev pub place_text : ℕ → ℕ → List ℕ
place_text line column = whole_text (pos line) ++ codes " " ++ whole_text (pos column)

abbrev pub model_text : ℕ → ℕ → Wrong → List ℕ
model_text line column what = codes "error model " ++ place_text line column ++ codes " " ++ wrong_word what

-- of the path, the part after its last slash is told
abbrev pub data_text : List ℕ → DataCause → List ℕ
data_text path cause = codes "error data " ++ file_name path ++ codes " " ++ data_word cause

abbrev pub limit_text : Counted → ℤ → ℤ → List ℕ
limit_text what found bound = codes "error limit " ++ counted_word what ++ codes " " ++ whole_text found ++ codes " " ++ whole_text bound

-- the line without its end
abbrev pub body_text : ErrorLine → List ℕ
body_text Usage = codes "error usage"
body_text Read = codes "error read"
body_text Memory = codes "error memory"
body_text (Syntax line column) = codes "error syntax " ++ place_text line column
body_text (Model line column what) = model_text line column what
body_text (Data file cause) = data_text file.now cause
body_text (Limit what found bound) = limit_text what found bound

abbrev pub error_text : ErrorLine → List ℕ
error_text e = body_text e ++ codes "\n"
