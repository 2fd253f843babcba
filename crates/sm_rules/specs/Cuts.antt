-- Lemmas and cuts: clauses and rows that lines showed and that later lines may use.
use Rattle.std.specs.Prelude.{◌≡◌, List, true, Option, IfSome}
use Rattle.sm_kinds.specs.declared.literal.Literal.{Literal}
use Rattle.sm_kinds.specs.Logic.{has_true}
use Rattle.sm_kinds.specs.Points.{Point}
use Rattle.sm_rows.specs.declared.row.Row.{Row}
use Rattle.sm_rows.specs.Rows.{RowHolds}

-- the point satisfies the lemma, if it wasn't given up
abbrev pub SatisfiesLemma : Point → Option (List Literal) → Type 0
SatisfiesLemma a lemma = IfSome lemma (λ literals. has_true a literals ≡ true)

-- the point satisfies the cut, if it wasn't given up
abbrev pub SatisfiesCut : Point → Option Row → Type 0
SatisfiesCut a cut = IfSome cut (RowHolds a)
