-- mean.V: linked variable V less the sum of value times indicator is 0.
use Rattle.std.specs.Prelude.{ℕ, List, ◌∷◌, ℤ, pos, neg_ℤ, true, if◌then◌else◌, Option, Some, None}
use Rattle.sm_kinds.specs.Vars.{var_at}
use Rattle.sm_flat.specs.Models.{FlatModel}
use Rattle.sm_step.specs.declared.row.Col.{Col}
use Rattle.sm_step.specs.declared.row.Col.TheVariants.{Var}
use Rattle.sm_rows.specs.declared.row.Row.{Row}
use Rattle.sm_rows.specs.Links.{is_linked}
use Rattle.sm_rows.specs.Terms.{without_zeros}
use Rattle.sm_rows.specs.Forms.{indicators}

abbrev pub mean_terms : ℕ → List ℤ → List (Col × ℤ)
mean_terms v values = (Var v, pos 1) ∷ indicators v neg_ℤ values

abbrev pub mean_row : ℕ → List ℤ → Row
mean_row v values = record { terms = without_zeros (mean_terms v values); equal = true; bound = pos 0 }

abbrev pub mean_of : FlatModel → ℕ → Option Row
mean_of m v = if is_linked m v then Some (mean_row v (var_at m.vars v).values) else None
