use Rattle.std.proofs.Common.{rules, w64, FitsSigned, ◌∙◌, ap, ap₂, map, ℤ}
use Rattle.std.specs.Prelude.{◌-ℤ◌}
use Rattle.std.specs.Int.{w128}
use Rattle.std.proofs.lemmas.Int.{to_z-of_z}
use Rattle.sm_kinds.specs.Tasks.{earliest_start, latest_end, no_task}
use Rattle.sm_meaning.specs.Limits.{least_of, greatest_of}
use Rattle.sm_drafts.proofs.Horizons.{rest_of, horizon_first}
use Rattle.sm_drafts.proofs.groups.horizon.Goals as goal

pub returns-in-len1-up : goal.returns-in-len1-up
returns-in-len1-up c =
    let vars = c.args.vars.now in
    let rest = rest_of c.args.tasks.now in
    let whole : FitsSigned w128 c.span.result = search rules in
    let last : FitsSigned w128 c.greatest_end.result = search rules in
    let end : FitsSigned w128 c.latest_end.result = search rules in
    let least : FitsSigned w64 c.least_start-start.result = search rules in
    let start : FitsSigned w64 c.earliest_start.result = search rules in
    to_z-of_z w128 c.span.result whole ∙ c.span.ensures
    ∙ ap₂ (λ (x y : ℤ). x -ℤ y)
    (to_z-of_z w128 c.greatest_end.result last ∙ c.greatest_end.ensures.value
    ∙ ap (λ (z : ℤ). greatest_of z (map (latest_end vars) rest)) (to_z-of_z w128 c.latest_end.result end ∙ c.latest_end.ensures.value))
    (to_z-of_z w64 c.least_start-start.result least ∙ c.least_start-start.ensures
    ∙ ap (λ (z : ℤ). least_of z (map (earliest_start vars) rest)) (to_z-of_z w64 c.earliest_start.result start ∙ c.earliest_start.ensures))
    ∙ horizon_first vars c.args.tasks.now no_task c.in-len1-up.len_at_least
