use Rattle.std.proofs.Common.{rules, w64, FitsSigned, ◌∙◌, ap₂, sym, List, ℕ, ℤ}
use Rattle.std.proofs.lemmas.Int.{to_z-of_z}
use Rattle.sm_kinds.specs.declared.linear.Cmp.{Cmp}
use Rattle.sm_kinds.specs.declared.linear.LinRow.{LinRow}
use Rattle.sm_flattening.proofs.Affine.{row_numbers}
use Rattle.sm_drafts.proofs.flat.row_of.Goals as goal

abbrev numbers : Cmp → List (ℕ × ℤ) → ℤ → LinRow
numbers c ts z = record { terms = ts; cmp = c; bound = z }

pub returns : goal.returns
returns c = λ n g h.
    let fits : FitsSigned w64 c.opposite-bound.result = search rules in
    ap₂ (numbers c.args.cmp) c.into_terms.ensures.field (to_z-of_z w64 c.opposite-bound.result fits ∙ c.opposite-bound.ensures) ∙ sym (row_numbers n c.args.cmp g c.args.form h)
