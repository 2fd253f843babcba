use Rattle.std.proofs.Common.{rules, ◌≡◌, ◌∙◌, ap, ◌++◌, codes, ap₂, ℤ, FitsSigned, of_z}
use Rattle.std.specs.Prelude.{int_div}
use Rattle.std.specs.Int.{w128}
use Rattle.std.proofs.lemmas.Int.{to_z-of_z}
use Rattle.std.proofs.lemmas.Result.{on_ok_weaker}
use Rattle.sm_base.specs.Whole.{whole_text}
use Rattle.sm_reports.proofs.Pieces.{and_then}
use Rattle.sm_reports.proofs.Divisors.{ratio_divided}
use Rattle.sm_reports.proofs.brief.push_ratio.Goals as goal

pub returns : goal.returns
returns c =
    let f = c.ranges.n in let g = c.ranges.d in
    let by : FitsSigned w128 c.common_divisor-by.result = search rules in
    let q : FitsSigned w128 c.quotient.result = search rules in
    let r : FitsSigned w128 c.quotient-2.result = search rules in
    let old = c.args.into.now.items in
    let first : c.push_whole.new.into.items ≡ old ++ whole_text c.quotient.result = simp to_z-of_z at c.in_ok-push_whole.ensures.ok in
    let second = and_then old c.push_whole.new.into.items c.extend_from_slice.new.self.items (whole_text c.quotient.result) (codes "/") first c.in_ok-extend_from_slice.ensures.items in
    let n : c.quotient.result ≡ int_div c.args.n c.common_divisor-by.result = simp to_z-of_z at c.quotient.ensures in
    let d : c.quotient-2.result ≡ int_div c.args.d c.common_divisor-by.result = simp to_z-of_z at c.quotient-2.ensures in
    let ratio = ap₂ (λ (x y : ℤ). whole_text x ++ codes "/" ++ whole_text y) n d
    ∙ ratio_divided c.args.n c.args.d c.common_divisor-by.result c.requires (simp to_z-of_z at c.common_divisor-by.ensures.value) (λ same. c.if-d-by.false (ap (of_z w128) same)) in
    on_ok_weaker c.push_whole-2.result (λ is. and_then old c.extend_from_slice.new.self.items c.push_whole-2.new.into.items (whole_text c.quotient.result ++ codes "/") (whole_text c.quotient-2.result) second is ∙ ap (λ t. old ++ t) ratio)
    (simp to_z-of_z at c.push_whole-2.ensures.ok)
