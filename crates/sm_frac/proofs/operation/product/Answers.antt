use Rattle.std.proofs.Common.{rules, refl, inl, inr, ◌∙◌}
use Rattle.std.proofs.lemmas.Int.{to_z-of_z}
use mir.Val.{SFits}
use mir.Syntax.{w128}
use Rattle.sm_frac.proofs.OperationLemmas.{within, product_positive, product_is_lowest, product_passes_not, product_value}
use Rattle.sm_frac.proofs.operation.product.Goals as goal

pub returns-in_err-n-clause-none : goal.returns-in_err-n-clause-none
returns-in_err-n-clause-none c =
    let a : SFits w128 c.args.left.n = search rules in
    let b : SFits w128 c.args.left.d = search rules in
    let d : SFits w128 c.args.right.n = search rules in
    let e : SFits w128 c.args.right.d = search rules in
    let t : SFits w128 c.lowest_terms-first.result.n = search rules in
    let u : SFits w128 c.lowest_terms-first.result.d = search rules in
    let v : SFits w128 c.lowest_terms-second.result.n = search rules in
    let w : SFits w128 c.lowest_terms-second.result.d = search rules in
    let p = simp to_z-of_z at c.lowest_terms-first.ensures.terms in
    let q = simp to_z-of_z at c.lowest_terms-second.ensures.terms in (
      λ _. record { top = _; bottom = _; other_top = _; other_bottom = _; terms = p; other_terms = q; beyond = inl (simp to_z-of_z at (c.in_err-n.ensures.none.0 refl)) },
      λ _. search rules,
    )

pub returns-in_err-d-clause-none : goal.returns-in_err-d-clause-none
returns-in_err-d-clause-none c =
    let a : SFits w128 c.args.left.n = search rules in
    let b : SFits w128 c.args.left.d = search rules in
    let d : SFits w128 c.args.right.n = search rules in
    let e : SFits w128 c.args.right.d = search rules in
    let t : SFits w128 c.lowest_terms-first.result.n = search rules in
    let u : SFits w128 c.lowest_terms-first.result.d = search rules in
    let v : SFits w128 c.lowest_terms-second.result.n = search rules in
    let w : SFits w128 c.lowest_terms-second.result.d = search rules in
    let p = simp to_z-of_z at c.lowest_terms-first.ensures.terms in
    let q = simp to_z-of_z at c.lowest_terms-second.ensures.terms in (
      λ _. record { top = _; bottom = _; other_top = _; other_bottom = _; terms = p; other_terms = q; beyond = inr (simp to_z-of_z at (c.in_err-d.ensures.none.0 refl)) },
      λ _. search rules,
    )

pub make-requires-clause-positive : goal.make-requires-clause-positive
make-requires-clause-positive c =
    let a : SFits w128 c.args.left.n = search rules in
    let b : SFits w128 c.args.left.d = search rules in
    let d : SFits w128 c.args.right.n = search rules in
    let e : SFits w128 c.args.right.d = search rules in
    let t : SFits w128 c.lowest_terms-first.result.n = search rules in
    let u : SFits w128 c.lowest_terms-first.result.d = search rules in
    let v : SFits w128 c.lowest_terms-second.result.n = search rules in
    let w : SFits w128 c.lowest_terms-second.result.d = search rules in
    let p = simp to_z-of_z at c.lowest_terms-first.ensures.terms in
    let q = simp to_z-of_z at c.lowest_terms-second.ensures.terms in
    let m : SFits w128 c.in_ok-d.d = search rules in
    simp to_z-of_z (product_positive _ _ _ (simp to_z-of_z at c.in_ok-d.ensures.some) p.above q.above)

pub make-requires-clause-bounded : goal.make-requires-clause-bounded
make-requires-clause-bounded c =
    let m : SFits w128 c.in_ok-n.n = search rules in
    simp to_z-of_z (within _ _ c.in_ok-n.ensures.some c.in_ok-n.ensures.none.1)

pub make-requires-clause-lowest : goal.make-requires-clause-lowest
make-requires-clause-lowest c =
    let a : SFits w128 c.args.left.n = search rules in
    let b : SFits w128 c.args.left.d = search rules in
    let d : SFits w128 c.args.right.n = search rules in
    let e : SFits w128 c.args.right.d = search rules in
    let t : SFits w128 c.lowest_terms-first.result.n = search rules in
    let u : SFits w128 c.lowest_terms-first.result.d = search rules in
    let v : SFits w128 c.lowest_terms-second.result.n = search rules in
    let w : SFits w128 c.lowest_terms-second.result.d = search rules in
    let p = simp to_z-of_z at c.lowest_terms-first.ensures.terms in
    let q = simp to_z-of_z at c.lowest_terms-second.ensures.terms in
    let m : SFits w128 c.in_ok-d.d = search rules in
    let n : SFits w128 c.in_ok-n.n = search rules in
    simp to_z-of_z (product_is_lowest _ _ _ _ _ _ _ _ _ _ c.args.left.lowest c.args.right.lowest p q (simp to_z-of_z at c.in_ok-n.ensures.some) (simp to_z-of_z at c.in_ok-d.ensures.some))

pub returns-clause-none : goal.returns-clause-none
returns-clause-none c =
    let a : SFits w128 c.args.left.n = search rules in
    let b : SFits w128 c.args.left.d = search rules in
    let d : SFits w128 c.args.right.n = search rules in
    let e : SFits w128 c.args.right.d = search rules in
    let t : SFits w128 c.lowest_terms-first.result.n = search rules in
    let u : SFits w128 c.lowest_terms-first.result.d = search rules in
    let v : SFits w128 c.lowest_terms-second.result.n = search rules in
    let w : SFits w128 c.lowest_terms-second.result.d = search rules in
    let p = simp to_z-of_z at c.lowest_terms-first.ensures.terms in
    let q = simp to_z-of_z at c.lowest_terms-second.ensures.terms in
    (λ h. absurd (cc), λ h. product_passes_not _ _ _ _ _ _ _ _ c.args.left.positive c.args.right.positive p q (simp to_z-of_z at c.in_ok-n.ensures.none.1) (simp to_z-of_z at c.in_ok-d.ensures.none.1) h)

pub returns-clause-exact : goal.returns-clause-exact
returns-clause-exact c =
    let a : SFits w128 c.args.left.n = search rules in
    let b : SFits w128 c.args.left.d = search rules in
    let d : SFits w128 c.args.right.n = search rules in
    let e : SFits w128 c.args.right.d = search rules in
    let t : SFits w128 c.lowest_terms-first.result.n = search rules in
    let u : SFits w128 c.lowest_terms-first.result.d = search rules in
    let v : SFits w128 c.lowest_terms-second.result.n = search rules in
    let w : SFits w128 c.lowest_terms-second.result.d = search rules in
    let p = simp to_z-of_z at c.lowest_terms-first.ensures.terms in
    let q = simp to_z-of_z at c.lowest_terms-second.ensures.terms in
    let m : SFits w128 c.in_ok-d.d = search rules in
    let n : SFits w128 c.in_ok-n.n = search rules in
    let r = simp to_z-of_z at c.make.ensures in
    product_value c.args.left c.args.right c.make.result _ _ _ _ p q (r.0 ∙ (simp to_z-of_z at c.in_ok-n.ensures.some)) (r.1 ∙ (simp to_z-of_z at c.in_ok-d.ensures.some))
