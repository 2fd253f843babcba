use Rattle.std.proofs.Common.{◌∙◌, ap, ◌+◌, ℕ}
use Rattle.std.specs.Prelude.{sum_by}
use Rattle.sm_kinds.specs.Limits.{most_reals}
use Rattle.sm_flat.specs.Limits.{one_if_real}
use Rattle.sm_data.specs.declared.refusal.Counted.TheVariants as counted
use Rattle.sm_meaning.specs.Expansions.{vars_of}
use Rattle.sm_drafts.proofs.Parts.{same_count}
use Rattle.sm_declarations.proofs.limits.try_reals.Goals as goal

pub returns-in-Real : goal.returns-in-Real
returns-in-Real c = rw c.in-Real.is (λ e is.
    same_count counted.Reals most_reals (c.reals_of.result + c.args.members) (sum_by one_if_real (vars_of e) + c.args.members) c.try_count.result
    (ap (λ (n : ℕ). n + c.args.members) (c.reals_of.ensures.value ∙ ap (λ vs. sum_by one_if_real vs) is)) c.try_count.ensures)
