-- link.V: the indicators of linked variable V sum to 1.
use Rattle.std.specs.Prelude.{ℕ, List, ℤ, pos, true, if◌then◌else◌, Option, Some, None}
use Rattle.sm_kinds.specs.Vars.{var_at}
use Rattle.sm_flat.specs.Models.{FlatModel}
use Rattle.sm_rows.specs.declared.row.Row.{Row}
use Rattle.sm_rows.specs.Links.{is_linked}
use Rattle.sm_rows.specs.Forms.{indicators, same_each}

abbrev pub link_row : ℕ → List ℤ → Row
link_row v values = record { terms = indicators v (same_each (pos 1)) values; equal = true; bound = pos 1 }

abbrev pub link_of : FlatModel → ℕ → Option Row
link_of m v = if is_linked m v then Some (link_row v (var_at m.vars v).values) else None
