-- Reading the names of columns and rows, and terms.
use Rattle.std.specs.Prelude.{◌^◌, ℕ, ℤ, List, codes}
use Rattle.sm_step.specs.declared.row.Col.{Col}
use Rattle.sm_step.specs.declared.row.Col.TheVariants.{Var, Is}
use Rattle.sm_step.specs.declared.row.RowRef.{RowRef}
use Rattle.sm_step.specs.declared.row.RowRef.TheVariants as row
use Rattle.sm_step.specs.declared.row.Term.{Term}
use Rattle.sm_step.specs.Reading.{Reads, done, ◌>>=◌, rest_behind, either, behind, whole_in, narrow_in, natural_in, number_in, list_in, each_in}
use Rattle.sm_step.specs.PartReading.{fraction_in}

-- a number behind `v`, and what may stand behind `=`
unfoldable pub column_in : Reads Col
column_in = behind (codes "v") (number_in >>= λ v. either (rest_behind (codes "=")) (narrow_in >>= λ x. done (Is v x)) (done (Var v)))

-- two numbers with a point between them
unfoldable pub pair_in : Reads (ℕ × ℕ)
pair_in = number_in >>= λ k. behind (codes ".") (number_in >>= λ n. done (k, n))

-- a number and a whole number with a point between them
unfoldable pub number_and_whole_in : Reads (ℕ × ℤ)
number_and_whole_in = number_in >>= λ k. behind (codes ".") (whole_in >>= λ z. done (k, z))

-- the rows of scheduling, packing and circuits, and cuts
unfoldable pub task_row_in : Reads RowRef
task_row_in = either (rest_behind (codes "time.")) (number_and_whole_in >>= λ p. done (row.Time p.0 p.1))
    (either (rest_behind (codes "par.")) (number_in >>= λ k. behind (codes ".") (list_in >>= λ tasks. done (row.Par k tasks)))
    (either (rest_behind (codes "cap.")) (pair_in >>= λ p. done (row.Cap p.0 p.1))
    (either (rest_behind (codes "pack.")) (number_in >>= λ k. done (row.Pack k))
    (either (rest_behind (codes "once.")) (pair_in >>= λ p. done (row.Once p.0 p.1))
    (either (rest_behind (codes "self.")) (pair_in >>= λ p. done (row.SelfLoop p.0 p.1))
    (behind (codes "cut.") (natural_in (2 ^ 64) >>= λ cut. done (row.Cut cut))))))))

-- the other rows, or one of these
unfoldable pub row_in : Reads RowRef
row_in = either (rest_behind (codes "lin.")) (number_in >>= λ k. done (row.Lin k))
    (either (rest_behind (codes "link.")) (number_in >>= λ v. done (row.Link v))
    (either (rest_behind (codes "mean.")) (number_in >>= λ v. done (row.Mean v))
    (either (rest_behind (codes "clause.")) (pair_in >>= λ p. done (row.Clause p.0 p.1))
    (either (rest_behind (codes "when.")) (pair_in >>= λ p. done (row.When p.0 p.1))
    (either (rest_behind (codes "value.")) (number_and_whole_in >>= λ p. done (row.Value p.0 p.1))
    (either (rest_behind (codes "table.")) (number_in >>= λ k. done (row.Table k))
    (task_row_in)))))))

unfoldable pub term_in : Reads Term
term_in = fraction_in >>= λ by. behind (codes "@") (row_in >>= λ row. done (record { by = by; row = row }))

abbrev pub terms_in : Reads (List Term)
terms_in = each_in 32 term_in
