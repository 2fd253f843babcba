use Rattle.std.proofs.Common.{rules, refl}
use Rattle.std.proofs.lemmas.Int.{to_z-of_z}
use mir.Val.{SFits}
use mir.Syntax.{w128}
use Rattle.sm_frac.proofs.OperationLemmas.{alike_passes, alike_passes_not, alike_value}
use Rattle.sm_frac.proofs.operation.sum_alike.Goals as goal

pub returns-in_err-n-clause-none : goal.returns-in_err-n-clause-none
returns-in_err-n-clause-none c =
    let a : SFits w128 c.args.left.n = search rules in
    let b : SFits w128 c.args.right.n = search rules in
    (λ _. alike_passes _ _ _ _ c.args.left.positive c.requires (simp to_z-of_z at (c.in_err-n.ensures.none.0 refl)), λ _. search rules)

pub returns-clause-none : goal.returns-clause-none
returns-clause-none c =
    let a : SFits w128 c.args.left.n = search rules in
    let b : SFits w128 c.args.right.n = search rules in
    (λ h. absurd (cc), λ h. alike_passes_not c.args.left c.args.right c.requires (simp to_z-of_z at c.in_ok-n.ensures.none.1) h)

pub returns-clause-exact : goal.returns-clause-exact
returns-clause-exact c =
    let a : SFits w128 c.args.left.n = search rules in
    let b : SFits w128 c.args.right.n = search rules in
    let d : SFits w128 c.args.left.d = search rules in
    let n : SFits w128 c.in_ok-n.n = search rules in
    let x : SFits w128 c.lowest_terms-parts.result.n = search rules in
    let y : SFits w128 c.lowest_terms-parts.result.d = search rules in
    let r = simp to_z-of_z at c.make.ensures in
    alike_value c.args.left c.args.right c.make.result _ _ _ c.requires (simp to_z-of_z at c.in_ok-n.ensures.some) (simp to_z-of_z at c.lowest_terms-parts.ensures.terms) r.0 r.1
