use Rattle.std.proofs.Common.{◌≡◌, drop}
use Rattle.sm_forms.specs.Meanings.{above}
use Rattle.sm_forms.proofs.Queries.{first_in}
use Rattle.sm_forms.proofs.form.Form.large_coefficient.Given as goal

abbrev pub invariant-loop-term : goal.invariant-loop-term
invariant-loop-term l = first_in (above l.limit) (drop l.term-index l.term-items) ≡ first_in (above l.limit) l.term-items
