use Rattle.std.proofs.Common.{rules, refl, subst, ℕ}
use Rattle.std.proofs.lemmas.Int.{to_z-of_z}
use Rattle.std.specs.Int.{IsGcd}
use mir.Val.{SFits}
use mir.Syntax.{w128}
use Rattle.sm_frac.proofs.FracLemmas.{gcd_above, gcd_small, exact_part, reduced_terms, reduced_smaller}
use Rattle.sm_frac.proofs.divisor.lowest_terms_by.Goals as goal

pub quotient_of-requires-clause-above : goal.quotient_of-requires-clause-above
quotient_of-requires-clause-above c =
    let f = c.ranges.n in let g = c.ranges.d in
    let e = simp to_z-of_z at c.unsigned_abs.ensures.value in
    gcd_above _ _ _ _ c.requires.above refl (c.requires.enough _ (subst (λ (p : ℕ). IsGcd p c.args.shared c.gcd-divisor.result) e c.gcd-divisor.ensures))

pub quotient_of-requires-clause-small : goal.quotient_of-requires-clause-small
quotient_of-requires-clause-small c =
    let f = c.ranges.n in let g = c.ranges.d in
    let e = simp to_z-of_z at c.unsigned_abs.ensures.value in
    gcd_small _ _ _ _ c.requires.above g refl (c.requires.enough _ (subst (λ (p : ℕ). IsGcd p c.args.shared c.gcd-divisor.result) e c.gcd-divisor.ensures))

pub quotient_of-requires-2-clause-above : goal.quotient_of-requires-2-clause-above
quotient_of-requires-2-clause-above c =
    let f = c.ranges.n in let g = c.ranges.d in
    let e = simp to_z-of_z at c.unsigned_abs.ensures.value in
    gcd_above _ _ _ _ c.requires.above refl (c.requires.enough _ (subst (λ (p : ℕ). IsGcd p c.args.shared c.gcd-divisor.result) e c.gcd-divisor.ensures))

pub quotient_of-requires-2-clause-small : goal.quotient_of-requires-2-clause-small
quotient_of-requires-2-clause-small c =
    let f = c.ranges.n in let g = c.ranges.d in
    let e = simp to_z-of_z at c.unsigned_abs.ensures.value in
    gcd_small _ _ _ _ c.requires.above g refl (c.requires.enough _ (subst (λ (p : ℕ). IsGcd p c.args.shared c.gcd-divisor.result) e c.gcd-divisor.ensures))

pub returns-clause-terms : goal.returns-clause-terms
returns-clause-terms c =
    let f = c.ranges.n in let g = c.ranges.d in
    let p : SFits w128 c.quotient_of.result = search rules in
    let q : SFits w128 c.quotient_of-2.result = search rules in
    let e = simp to_z-of_z at c.unsigned_abs.ensures.value in
    let is = c.requires.enough _ (subst (λ (p : ℕ). IsGcd p c.args.shared c.gcd-divisor.result) e c.gcd-divisor.ensures) in
    simp to_z-of_z (reduced_terms _ _ _ _ _ _ _ refl refl c.requires.above is (simp to_z-of_z at c.quotient_of.ensures) (simp to_z-of_z at c.quotient_of-2.ensures))

pub returns-clause-smaller : goal.returns-clause-smaller
returns-clause-smaller c =
    let f = c.ranges.n in let g = c.ranges.d in
    let p : SFits w128 c.quotient_of.result = search rules in
    let e = simp to_z-of_z at c.unsigned_abs.ensures.value in
    let is = c.requires.enough _ (subst (λ (p : ℕ). IsGcd p c.args.shared c.gcd-divisor.result) e c.gcd-divisor.ensures) in
    simp to_z-of_z (reduced_smaller _ _ _ _ _ _ refl refl c.requires.above is (simp to_z-of_z at c.quotient_of.ensures))

pub returns-clause-whole : goal.returns-clause-whole
returns-clause-whole c =
    let f = c.ranges.n in let g = c.ranges.d in
    let p : SFits w128 c.quotient_of.result = search rules in
    let e = simp to_z-of_z at c.unsigned_abs.ensures.value in
    let is = c.requires.enough _ (subst (λ (p : ℕ). IsGcd p c.args.shared c.gcd-divisor.result) e c.gcd-divisor.ensures) in
    simp to_z-of_z (exact_part c.args.n c.quotient_of.result c.gcd-divisor.result is.0 (simp to_z-of_z at c.quotient_of.ensures))
