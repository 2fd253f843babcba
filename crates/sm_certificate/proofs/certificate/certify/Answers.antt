use Rattle.std.proofs.Common.{rules, map, SFits, w64}
use Rattle.std.specs.Prelude.{Some, None}
use Rattle.std.proofs.lemmas.Int.{to_z-of_z}
use Rattle.sm_frac.specs.Frac.{value_of}
use Rattle.sm_frac.specs.Rational.{zero_ℚ}
use Rattle.sm_certificate.specs.Program.{cost}
use Rattle.sm_certificate.specs.Certificate.{IsOptimalPair, ShowsNoPoint}
use Rattle.sm_certificate.specs.Checking.{IsPairStep, IsBoundStep}
use Rattle.sm_certificate.proofs.CheckLemmas.{both_found, found_optimal, found_infeasible, found_certified, found_refuted, found_proven, found_none, found_passed}
use Rattle.sm_certificate.proofs.certificate.certify.Goals as goal

pub returns-in-Optimal-clause-certified : goal.returns-in-Optimal-clause-certified
returns-in-Optimal-clause-certified c =
    let f : SFits w64 c.in-Optimal.denominator = search rules in
    let k = c.ranges.constant in
    let p = c.args.program.now in
    let d = c.in-Optimal.denominator in
    let xs = c.deref.result.now in
    let ys = map value_of c.deref-in-Optimal.result.now in
    let found = both_found (IsOptimalPair p d xs ys) (IsPairStep p c.args.constant d xs ys) (IsBoundStep p (cost p) (Some c.args.constant) ys) c.check_pair.result (simp to_z-of_z at c.check_pair.ensures.found) (simp to_z-of_z at c.check_pair.ensures.none_passes) in
    found_certified p c.args.constant c.args.proposal.now c.check_pair.result (found_optimal p c.args.constant c.args.proposal.now d c.in-Optimal.point c.in-Optimal.multipliers xs c.deref-in-Optimal.result.now c.check_pair.result c.in-Optimal.is c.deref.ensures.value c.deref-in-Optimal.ensures.value found)

pub returns-in-Optimal-clause-proven : goal.returns-in-Optimal-clause-proven
returns-in-Optimal-clause-proven c =
    let f : SFits w64 c.in-Optimal.denominator = search rules in
    let k = c.ranges.constant in
    let p = c.args.program.now in
    let d = c.in-Optimal.denominator in
    let xs = c.deref.result.now in
    let ys = map value_of c.deref-in-Optimal.result.now in
    let found = both_found (IsOptimalPair p d xs ys) (IsPairStep p c.args.constant d xs ys) (IsBoundStep p (cost p) (Some c.args.constant) ys) c.check_pair.result (simp to_z-of_z at c.check_pair.ensures.found) (simp to_z-of_z at c.check_pair.ensures.none_passes) in
    found_proven p c.args.constant c.args.proposal.now c.check_pair.result (found_optimal p c.args.constant c.args.proposal.now d c.in-Optimal.point c.in-Optimal.multipliers xs c.deref-in-Optimal.result.now c.check_pair.result c.in-Optimal.is c.deref.ensures.value c.deref-in-Optimal.ensures.value found)

pub returns-in-Optimal-clause-none_passes : goal.returns-in-Optimal-clause-none_passes
returns-in-Optimal-clause-none_passes c =
    let f : SFits w64 c.in-Optimal.denominator = search rules in
    let k = c.ranges.constant in
    let p = c.args.program.now in
    let d = c.in-Optimal.denominator in
    let xs = c.deref.result.now in
    let ys = map value_of c.deref-in-Optimal.result.now in
    let found = both_found (IsOptimalPair p d xs ys) (IsPairStep p c.args.constant d xs ys) (IsBoundStep p (cost p) (Some c.args.constant) ys) c.check_pair.result (simp to_z-of_z at c.check_pair.ensures.found) (simp to_z-of_z at c.check_pair.ensures.none_passes) in
    found_none p c.args.constant c.args.proposal.now c.check_pair.result (found_optimal p c.args.constant c.args.proposal.now d c.in-Optimal.point c.in-Optimal.multipliers xs c.deref-in-Optimal.result.now c.check_pair.result c.in-Optimal.is c.deref.ensures.value c.deref-in-Optimal.ensures.value found)

pub returns-in-Optimal-clause-refuted : goal.returns-in-Optimal-clause-refuted
returns-in-Optimal-clause-refuted c =
    let f : SFits w64 c.in-Optimal.denominator = search rules in
    let k = c.ranges.constant in
    let p = c.args.program.now in
    let d = c.in-Optimal.denominator in
    let xs = c.deref.result.now in
    let ys = map value_of c.deref-in-Optimal.result.now in
    let found = both_found (IsOptimalPair p d xs ys) (IsPairStep p c.args.constant d xs ys) (IsBoundStep p (cost p) (Some c.args.constant) ys) c.check_pair.result (simp to_z-of_z at c.check_pair.ensures.found) (simp to_z-of_z at c.check_pair.ensures.none_passes) in
    found_refuted p c.args.constant c.args.proposal.now c.check_pair.result (found_optimal p c.args.constant c.args.proposal.now d c.in-Optimal.point c.in-Optimal.multipliers xs c.deref-in-Optimal.result.now c.check_pair.result c.in-Optimal.is c.deref.ensures.value c.deref-in-Optimal.ensures.value found)

pub returns-in-Optimal-clause-passed : goal.returns-in-Optimal-clause-passed
returns-in-Optimal-clause-passed c =
    let f : SFits w64 c.in-Optimal.denominator = search rules in
    let k = c.ranges.constant in
    let p = c.args.program.now in
    let d = c.in-Optimal.denominator in
    let xs = c.deref.result.now in
    let ys = map value_of c.deref-in-Optimal.result.now in
    let found = both_found (IsOptimalPair p d xs ys) (IsPairStep p c.args.constant d xs ys) (IsBoundStep p (cost p) (Some c.args.constant) ys) c.check_pair.result (simp to_z-of_z at c.check_pair.ensures.found) (simp to_z-of_z at c.check_pair.ensures.none_passes) in
    found_passed p c.args.constant c.args.proposal.now c.check_pair.result (found_optimal p c.args.constant c.args.proposal.now d c.in-Optimal.point c.in-Optimal.multipliers xs c.deref-in-Optimal.result.now c.check_pair.result c.in-Optimal.is c.deref.ensures.value c.deref-in-Optimal.ensures.value found)

pub returns-in-Infeasible-clause-certified : goal.returns-in-Infeasible-clause-certified
returns-in-Infeasible-clause-certified c =
    let p = c.args.program.now in
    let ys = map value_of c.deref-in-Infeasible.result.now in
    let found = both_found (ShowsNoPoint p ys) (IsBoundStep p (λ _. zero_ℚ) None ys) (IsBoundStep p (λ _. zero_ℚ) None ys) c.check_no_point.result c.check_no_point.ensures.found c.check_no_point.ensures.none_passes in
    found_certified p c.args.constant c.args.proposal.now c.check_no_point.result (found_infeasible p c.args.constant c.args.proposal.now c.in-Infeasible.multipliers c.deref-in-Infeasible.result.now c.check_no_point.result c.in-Infeasible.is c.deref-in-Infeasible.ensures.value found)

pub returns-in-Infeasible-clause-proven : goal.returns-in-Infeasible-clause-proven
returns-in-Infeasible-clause-proven c =
    let p = c.args.program.now in
    let ys = map value_of c.deref-in-Infeasible.result.now in
    let found = both_found (ShowsNoPoint p ys) (IsBoundStep p (λ _. zero_ℚ) None ys) (IsBoundStep p (λ _. zero_ℚ) None ys) c.check_no_point.result c.check_no_point.ensures.found c.check_no_point.ensures.none_passes in
    found_proven p c.args.constant c.args.proposal.now c.check_no_point.result (found_infeasible p c.args.constant c.args.proposal.now c.in-Infeasible.multipliers c.deref-in-Infeasible.result.now c.check_no_point.result c.in-Infeasible.is c.deref-in-Infeasible.ensures.value found)

pub returns-in-Infeasible-clause-none_passes : goal.returns-in-Infeasible-clause-none_passes
returns-in-Infeasible-clause-none_passes c =
    let p = c.args.program.now in
    let ys = map value_of c.deref-in-Infeasible.result.now in
    let found = both_found (ShowsNoPoint p ys) (IsBoundStep p (λ _. zero_ℚ) None ys) (IsBoundStep p (λ _. zero_ℚ) None ys) c.check_no_point.result c.check_no_point.ensures.found c.check_no_point.ensures.none_passes in
    found_none p c.args.constant c.args.proposal.now c.check_no_point.result (found_infeasible p c.args.constant c.args.proposal.now c.in-Infeasible.multipliers c.deref-in-Infeasible.result.now c.check_no_point.result c.in-Infeasible.is c.deref-in-Infeasible.ensures.value found)

pub returns-in-Infeasible-clause-refuted : goal.returns-in-Infeasible-clause-refuted
returns-in-Infeasible-clause-refuted c =
    let p = c.args.program.now in
    let ys = map value_of c.deref-in-Infeasible.result.now in
    let found = both_found (ShowsNoPoint p ys) (IsBoundStep p (λ _. zero_ℚ) None ys) (IsBoundStep p (λ _. zero_ℚ) None ys) c.check_no_point.result c.check_no_point.ensures.found c.check_no_point.ensures.none_passes in
    found_refuted p c.args.constant c.args.proposal.now c.check_no_point.result (found_infeasible p c.args.constant c.args.proposal.now c.in-Infeasible.multipliers c.deref-in-Infeasible.result.now c.check_no_point.result c.in-Infeasible.is c.deref-in-Infeasible.ensures.value found)

pub returns-in-Infeasible-clause-passed : goal.returns-in-Infeasible-clause-passed
returns-in-Infeasible-clause-passed c =
    let p = c.args.program.now in
    let ys = map value_of c.deref-in-Infeasible.result.now in
    let found = both_found (ShowsNoPoint p ys) (IsBoundStep p (λ _. zero_ℚ) None ys) (IsBoundStep p (λ _. zero_ℚ) None ys) c.check_no_point.result c.check_no_point.ensures.found c.check_no_point.ensures.none_passes in
    found_passed p c.args.constant c.args.proposal.now c.check_no_point.result (found_infeasible p c.args.constant c.args.proposal.now c.in-Infeasible.multipliers c.deref-in-Infeasible.result.now c.check_no_point.result c.in-Infeasible.is c.deref-in-Infeasible.ensures.value found)
