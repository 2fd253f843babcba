use Rattle.std.proofs.Common.{◌∙◌, ap, sym, refl, List, length, map}
use Rattle.std.proofs.lemmas.List.{length-map}
use Rattle.sm_frac.specs.Frac.{value_of}
use Rattle.sm_frac.specs.Rational.{zero_ℚ}
use Rattle.std.specs.Prelude.{None}
use Rattle.sm_certificate.specs.declared.program.LpRow.{LpRow}
use Rattle.sm_certificate.specs.Checking.{IsBoundStep}
use Rattle.sm_certificate.proofs.CombinationLemmas.{lawful_long}
use Rattle.sm_certificate.proofs.BoundLemmas.{none_passes}
use Rattle.sm_certificate.proofs.CheckLemmas.{no_point_yes, no_point_no}
use Rattle.sm_certificate.proofs.certificate.check_no_point.Goals as goal

pub multiplier_bound-requires-clause-long : goal.multiplier_bound-requires-clause-long
multiplier_bound-requires-clause-long c =
    let e = lawful_long c.as_slice.result.now (map value_of c.args.multipliers.now) (c.if-not-are_lawful.ensures.0 refl) in
    let n = length-map c.args.multipliers.now value_of in
    sym (ap (λ (rs : List LpRow). length rs) (sym c.as_slice.ensures) ∙ e ∙ n)

pub returns-then-is_positive-clause-found : goal.returns-then-is_positive-clause-found
returns-then-is_positive-clause-found c = no_point_yes c.args.program.now c.as_slice.result.now (map value_of c.args.multipliers.now) (value_of c.in-Ok.bound) c.as_slice.ensures (c.if-not-are_lawful.ensures.0 refl) c.in-Ok.ensures.exact (c.if-is_positive.ensures.yes refl)

pub returns-then-is_positive-clause-none_passes : goal.returns-then-is_positive-clause-none_passes
returns-then-is_positive-clause-none_passes c = λ e. none_passes (IsBoundStep c.args.program.now (λ _. zero_ℚ) None (map value_of c.args.multipliers.now)) c.in-Ok.ensures.fine

pub returns-else-is_positive-clause-found : goal.returns-else-is_positive-clause-found
returns-else-is_positive-clause-found c = no_point_no c.args.program.now (map value_of c.args.multipliers.now) (value_of c.in-Ok.bound) c.in-Ok.ensures.exact (c.if-is_positive.ensures.no refl)

pub returns-in-Err-clause-found : goal.returns-in-Err-clause-found
returns-in-Err-clause-found c = c.in-Err.ensures.passed
