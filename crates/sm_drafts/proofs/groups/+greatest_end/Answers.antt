use Rattle.std.proofs.Common.{rules, FitsSigned, ◌∙◌, ap, ap₂, map, ℤ, if◌then◌else◌}
use Rattle.std.specs.Prelude.{int_lt}
use Rattle.std.specs.Int.{w128}
use Rattle.std.proofs.lemmas.Int.{to_z-of_z}
use Rattle.sm_kinds.specs.Tasks.{latest_end, no_task}
use Rattle.sm_meaning.specs.Limits.{greatest_of}
use Rattle.sm_drafts.proofs.Horizons.{rest_of, greatest_first}
use Rattle.sm_drafts.proofs.groups.+greatest_end.Goals as goal

pub returns-in-len1-up-clause-value : goal.returns-in-len1-up-clause-value
returns-in-len1-up-clause-value t c =
    let ends = latest_end c.args.vars.now in
    let rest = rest_of c.args.tasks.now in
    let whole : FitsSigned w128 c.greatest_end.result = search rules in
    let larger : FitsSigned w128 c.later.result = search rules in
    let given : FitsSigned w128 c.args.greatest = search rules in
    let first : FitsSigned w128 c.latest_end.result = search rules in
    to_z-of_z w128 c.greatest_end.result whole ∙ c.greatest_end.ensures.value
    ∙ ap (λ (z : ℤ). greatest_of z (map ends rest)) (to_z-of_z w128 c.later.result larger ∙ c.later.ensures.value
    ∙ ap₂ (λ (g e : ℤ). if int_lt g e then e else g) (to_z-of_z w128 c.args.greatest given) (to_z-of_z w128 c.latest_end.result first ∙ c.latest_end.ensures.value))
    ∙ greatest_first ends c.args.greatest c.args.tasks.now no_task c.in-len1-up.len_at_least
