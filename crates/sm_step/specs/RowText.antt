-- The names of columns and rows, and terms.
use Rattle.std.specs.Prelude.{◌++◌, ℕ, List, codes}
use Rattle.sm_base.specs.Whole.{whole_text}
use Rattle.sm_step.specs.declared.row.Col.{Col}
use Rattle.sm_step.specs.declared.row.Col.TheVariants.{Var, Is}
use Rattle.sm_step.specs.declared.row.RowRef.{RowRef}
use Rattle.sm_step.specs.declared.row.RowRef.TheVariants as row
use Rattle.sm_step.specs.declared.row.Term.{Term}
use Rattle.sm_step.specs.PartText.{number_text, list_text, fraction_text, each_after}

-- `v3`, or `v3=7`
abbrev pub column_text : Col → List ℕ
column_text (Var v) = codes "v" ++ number_text v
column_text (Is v x) = codes "v" ++ number_text v ++ codes "=" ++ whole_text x

abbrev pub row_text : RowRef → List ℕ
row_text (row.Lin k) = codes "lin." ++ number_text k
row_text (row.Link v) = codes "link." ++ number_text v
row_text (row.Mean v) = codes "mean." ++ number_text v
row_text (row.Clause k c) = codes "clause." ++ number_text k ++ codes "." ++ number_text c
row_text (row.When k half) = codes "when." ++ number_text k ++ codes "." ++ number_text half
row_text (row.Value k v) = codes "value." ++ number_text k ++ codes "." ++ whole_text v
row_text (row.Table k) = codes "table." ++ number_text k
row_text (row.Time k moment) = codes "time." ++ number_text k ++ codes "." ++ whole_text moment
row_text (row.Par k tasks) = codes "par." ++ number_text k ++ codes "." ++ list_text tasks
row_text (row.Cap k group) = codes "cap." ++ number_text k ++ codes "." ++ number_text group
row_text (row.Pack k) = codes "pack." ++ number_text k
row_text (row.Once k node) = codes "once." ++ number_text k ++ codes "." ++ number_text node
row_text (row.SelfLoop k place) = codes "self." ++ number_text k ++ codes "." ++ number_text place
row_text (row.Cut cut) = codes "cut." ++ number_text cut
row_text (row.Goal level) = codes "goal." ++ number_text level
row_text (row.Named name) = codes "r" ++ number_text name

-- the multiplier, `@` and the row's name
abbrev pub term_text : Term → List ℕ
term_text t = fraction_text t.by ++ codes "@" ++ row_text t.row

-- each term after a space
abbrev pub terms_text : List Term → List ℕ
terms_text = each_after 32 term_text
