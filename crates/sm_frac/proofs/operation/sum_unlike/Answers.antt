use Rattle.std.proofs.Common.{rules, refl, inl, inr, arith}
use Rattle.std.proofs.lemmas.Int.{to_z-of_z}
use Rattle.std.specs.Prelude.{unsigned_abs, ◌<◌, ◌^◌}
use mir.Val.{SFits}
use mir.Syntax.{w128}
use Rattle.sm_frac.proofs.OperationLemmas.{within, sum_value, sum_above, sum_passes_not}
use Rattle.sm_frac.proofs.SharedDivisor.{shared_enough}
use Rattle.sm_frac.proofs.operation.sum_unlike.Goals as goal

pub returns-in_err-first-clause-none : goal.returns-in_err-first-clause-none
returns-in_err-first-clause-none c =
    let a : SFits w128 c.args.left.n = search rules in
    let b : SFits w128 c.args.left.d = search rules in
    let d : SFits w128 c.args.right.n = search rules in
    let e : SFits w128 c.args.right.d = search rules in
    let t : SFits w128 c.lowest_terms-denominators.result.n = search rules in
    let u : SFits w128 c.lowest_terms-denominators.result.d = search rules in
    let p = simp to_z-of_z at c.lowest_terms-denominators.ensures.terms in (
      λ _. record { left = _; right = _; terms = p; beyond = inl (simp to_z-of_z at (c.in_err-first.ensures.none.0 refl)) },
      λ _. search rules,
    )

pub returns-in_err-second-clause-none : goal.returns-in_err-second-clause-none
returns-in_err-second-clause-none c =
    let a : SFits w128 c.args.left.n = search rules in
    let b : SFits w128 c.args.left.d = search rules in
    let d : SFits w128 c.args.right.n = search rules in
    let e : SFits w128 c.args.right.d = search rules in
    let t : SFits w128 c.lowest_terms-denominators.result.n = search rules in
    let u : SFits w128 c.lowest_terms-denominators.result.d = search rules in
    let p = simp to_z-of_z at c.lowest_terms-denominators.ensures.terms in (
      λ _. record { left = _; right = _; terms = p; beyond = inr (inl (simp to_z-of_z at (c.in_err-second.ensures.none.0 refl))) },
      λ _. search rules,
    )

pub returns-in_err-n-clause-none : goal.returns-in_err-n-clause-none
returns-in_err-n-clause-none c =
    let a : SFits w128 c.args.left.n = search rules in
    let b : SFits w128 c.args.left.d = search rules in
    let d : SFits w128 c.args.right.n = search rules in
    let e : SFits w128 c.args.right.d = search rules in
    let t : SFits w128 c.lowest_terms-denominators.result.n = search rules in
    let u : SFits w128 c.lowest_terms-denominators.result.d = search rules in
    let p = simp to_z-of_z at c.lowest_terms-denominators.ensures.terms in
    let v : SFits w128 c.in_ok-first.first = search rules in
    let first = simp to_z-of_z at c.in_ok-first.ensures.some in
    let w : SFits w128 c.in_ok-second.second = search rules in
    let second = simp to_z-of_z at c.in_ok-second.ensures.some in (
      λ _. record { left = _; right = _; terms = p; beyond = inr (inr (inl (simp (first, second) at (simp to_z-of_z at (c.in_err-n.ensures.none.0 refl))))) },
      λ _. search rules,
    )

pub returns-in_err-d-clause-none : goal.returns-in_err-d-clause-none
returns-in_err-d-clause-none c =
    let a : SFits w128 c.args.left.n = search rules in
    let b : SFits w128 c.args.left.d = search rules in
    let d : SFits w128 c.args.right.n = search rules in
    let e : SFits w128 c.args.right.d = search rules in
    let t : SFits w128 c.lowest_terms-denominators.result.n = search rules in
    let u : SFits w128 c.lowest_terms-denominators.result.d = search rules in
    let p = simp to_z-of_z at c.lowest_terms-denominators.ensures.terms in (
      λ _. record { left = _; right = _; terms = p; beyond = inr (inr (inr (simp to_z-of_z at (c.in_err-d.ensures.none.0 refl)))) },
      λ _. search rules,
    )

pub lowest_terms_by-parts-requires-clause-above : goal.lowest_terms_by-parts-requires-clause-above
lowest_terms_by-parts-requires-clause-above c =
    let a : SFits w128 c.args.left.n = search rules in
    let b : SFits w128 c.args.left.d = search rules in
    let d : SFits w128 c.args.right.n = search rules in
    let e : SFits w128 c.args.right.d = search rules in
    let t : SFits w128 c.lowest_terms-denominators.result.n = search rules in
    let u : SFits w128 c.lowest_terms-denominators.result.d = search rules in
    let p = simp to_z-of_z at c.lowest_terms-denominators.ensures.terms in
    let n : SFits w128 c.in_ok-n.n = search rules in
    let m : SFits w128 c.in_ok-d.d = search rules in
    let bottom = simp to_z-of_z at c.in_ok-d.ensures.some in
    simp to_z-of_z (sum_above _ _ _ bottom c.args.left.positive p.above)

pub lowest_terms_by-parts-requires-clause-enough : goal.lowest_terms_by-parts-requires-clause-enough
lowest_terms_by-parts-requires-clause-enough c k =
    let a : SFits w128 c.args.left.n = search rules in
    let b : SFits w128 c.args.left.d = search rules in
    let d : SFits w128 c.args.right.n = search rules in
    let e : SFits w128 c.args.right.d = search rules in
    let t : SFits w128 c.lowest_terms-denominators.result.n = search rules in
    let u : SFits w128 c.lowest_terms-denominators.result.d = search rules in
    let p = simp to_z-of_z at c.lowest_terms-denominators.ensures.terms in
    let g = simp to_z-of_z at c.lowest_terms-denominators.ensures.whole in
    let v : SFits w128 c.in_ok-first.first = search rules in
    let first = simp to_z-of_z at c.in_ok-first.ensures.some in
    let w : SFits w128 c.in_ok-second.second = search rules in
    let second = simp to_z-of_z at c.in_ok-second.ensures.some in
    let n : SFits w128 c.in_ok-n.n = search rules in
    let m : SFits w128 c.in_ok-d.d = search rules in
    let bottom = simp to_z-of_z at c.in_ok-d.ensures.some in
    simp to_z-of_z (shared_enough _ _ _ _ _ _ c.in_ok-n.n c.in_ok-d.d c.lowest_terms-denominators.result.divisor k c.args.left.lowest c.args.right.lowest p g (simp (first, second) at (simp to_z-of_z at c.in_ok-n.ensures.some)) bottom)

pub returns-clause-none : goal.returns-clause-none
returns-clause-none c =
    let a : SFits w128 c.args.left.n = search rules in
    let b : SFits w128 c.args.left.d = search rules in
    let d : SFits w128 c.args.right.n = search rules in
    let e : SFits w128 c.args.right.d = search rules in
    let t : SFits w128 c.lowest_terms-denominators.result.n = search rules in
    let u : SFits w128 c.lowest_terms-denominators.result.d = search rules in
    let p = simp to_z-of_z at c.lowest_terms-denominators.ensures.terms in
    let v : SFits w128 c.in_ok-first.first = search rules in
    let first = simp to_z-of_z at c.in_ok-first.ensures.some in
    let w : SFits w128 c.in_ok-second.second = search rules in
    let second = simp to_z-of_z at c.in_ok-second.ensures.some in
    (λ h. absurd (cc), λ h. sum_passes_not _ _ _ _ _ _ c.args.right.positive p (simp to_z-of_z at c.in_ok-first.ensures.none.1) (simp to_z-of_z at c.in_ok-second.ensures.none.1) (simp (first, second) at (simp to_z-of_z at c.in_ok-n.ensures.none.1)) (simp to_z-of_z at c.in_ok-d.ensures.none.1) h)

pub returns-clause-exact : goal.returns-clause-exact
returns-clause-exact c =
    let a : SFits w128 c.args.left.n = search rules in
    let b : SFits w128 c.args.left.d = search rules in
    let d : SFits w128 c.args.right.n = search rules in
    let e : SFits w128 c.args.right.d = search rules in
    let t : SFits w128 c.lowest_terms-denominators.result.n = search rules in
    let u : SFits w128 c.lowest_terms-denominators.result.d = search rules in
    let p = simp to_z-of_z at c.lowest_terms-denominators.ensures.terms in
    let v : SFits w128 c.in_ok-first.first = search rules in
    let first = simp to_z-of_z at c.in_ok-first.ensures.some in
    let w : SFits w128 c.in_ok-second.second = search rules in
    let second = simp to_z-of_z at c.in_ok-second.ensures.some in
    let n : SFits w128 c.in_ok-n.n = search rules in
    let m : SFits w128 c.in_ok-d.d = search rules in
    let bottom = simp to_z-of_z at c.in_ok-d.ensures.some in
    let x : SFits w128 c.lowest_terms_by-parts.result.n = search rules in
    let y : SFits w128 c.lowest_terms_by-parts.result.d = search rules in
    let r = simp to_z-of_z at c.make.ensures in
    sum_value c.args.left c.args.right c.make.result _ _ _ _ _ _ p (simp (first, second) at (simp to_z-of_z at c.in_ok-n.ensures.some)) bottom (simp to_z-of_z at c.lowest_terms_by-parts.ensures.terms) r.0 r.1

pub make-requires-clause-bounded : goal.make-requires-clause-bounded
make-requires-clause-bounded c =
    let n : SFits w128 c.in_ok-n.n = search rules in
    let x : SFits w128 c.lowest_terms_by-parts.result.n = search rules in
    let s = simp to_z-of_z at c.lowest_terms_by-parts.ensures.smaller in
    let w = within _ _ c.in_ok-n.ensures.some c.in_ok-n.ensures.none.1 in
    let g : unsigned_abs c.lowest_terms_by-parts.result.n < 2 ^ 127 = omega arith in
    simp to_z-of_z g
