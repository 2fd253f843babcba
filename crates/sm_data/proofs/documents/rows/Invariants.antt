use Rattle.std.proofs.Common.{◌≡◌, drop}
use Rattle.toml.specs.View.{view}
use Rattle.sm_data.specs.Numbers.{each, with_front}
use Rattle.sm_data.specs.Documents.{row_in}
use Rattle.sm_data.proofs.documents.rows.Given as goal

-- those so far and those to come are those of the array
abbrev pub invariant-loop-value : goal.invariant-loop-value
invariant-loop-value l = with_front l.rows (each (λ v. row_in l.width (view v)) (drop l.value-index l.values)) ≡ each (λ v. row_in l.width (view v)) l.values
