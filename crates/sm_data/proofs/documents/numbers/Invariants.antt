use Rattle.std.proofs.Common.{◌≡◌, drop}
use Rattle.toml.specs.View.{view}
use Rattle.sm_data.specs.Numbers.{each, with_front}
use Rattle.sm_data.specs.Documents.{number_in}
use Rattle.sm_data.proofs.documents.numbers.Given as goal

-- those so far and those to come are those of the array
abbrev pub invariant-loop-value : goal.invariant-loop-value
invariant-loop-value l = with_front l.numbers (each (λ v. number_in (view v)) (drop l.value-index l.values)) ≡ each (λ v. number_in (view v)) l.values
