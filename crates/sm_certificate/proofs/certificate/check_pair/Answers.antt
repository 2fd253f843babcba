use Rattle.std.proofs.Common.{◌∙◌, ap, sym, refl, List, length, map}
use Rattle.std.proofs.lemmas.Int.{to_z-of_z}
use Rattle.std.proofs.lemmas.List.{length-map}
use Rattle.sm_frac.specs.Frac.{value_of}
use Rattle.sm_certificate.specs.declared.program.LpRow.{LpRow}
use Rattle.sm_certificate.proofs.CombinationLemmas.{lawful_long}
use Rattle.sm_certificate.proofs.CheckLemmas.{pair_boxed, pair_made}
use Rattle.sm_certificate.proofs.certificate.check_pair.Goals as goal

pub returns-then-not-is_boxed-clause-found : goal.returns-then-not-is_boxed-clause-found
returns-then-not-is_boxed-clause-found c = λ h.
    let d = c.ranges.denominator in
    let e = simp to_z-of_z at c.if-not-is_boxed.ensures in
    absurd (let t = e.1 (pair_boxed c.args.program.now c.args.denominator c.args.point.now (map value_of c.args.multipliers.now) h) in cc)

pub is_tight-requires-clause-long : goal.is_tight-requires-clause-long
is_tight-requires-clause-long c =
    let e = lawful_long c.as_slice.result.now (map value_of c.args.multipliers.now) (c.if-not-are_lawful.ensures.0 refl) in
    let n = length-map c.args.multipliers.now value_of in
    sym (ap (λ (rs : List LpRow). length rs) (sym c.as_slice.ensures) ∙ e ∙ n)

pub returns-in-Ok-true-clause-found : goal.returns-in-Ok-true-clause-found
returns-in-Ok-true-clause-found c =
    let d = c.ranges.denominator in
    let e = simp to_z-of_z at c.if-not-is_boxed.ensures in
    let h = simp to_z-of_z at c.in-Ok-true.ensures.tight in
    pair_made c.args.program.now c.args.denominator c.args.point.now (map value_of c.args.multipliers.now) c.as_slice.result.now c.as_slice.ensures (e.0 refl) (c.if-not-are_lawful.ensures.0 refl) (h.0 c.in-Ok-true.field-0-test)

pub returns-in-Ok-true-clause-none_passes : goal.returns-in-Ok-true-clause-none_passes
returns-in-Ok-true-clause-none_passes c = λ e.
    let k = c.ranges.constant in
    let h = simp to_z-of_z at c.in-Ok-true.ensures.none_passes in
    h c.in-Ok-true.field-0-test

pub returns-in-Err-clause-found : goal.returns-in-Err-clause-found
returns-in-Err-clause-found c =
    let d = c.ranges.denominator in
    let k = c.ranges.constant in
    simp to_z-of_z at c.in-Err.ensures.passed
