use Rattle.std.proofs.Common.{rules, ◌≡◌, ◌∙◌, ◌++◌, ap, ap₂, ℤ, ℕ, List, FitsSigned}
use Rattle.std.specs.Int.{w128}
use Rattle.std.proofs.lemmas.Int.{to_z-of_z}
use Rattle.sm_flat.specs.Assignments.{point_of}
use Rattle.sm_reports.specs.Briefs.{value_line}
use Rattle.sm_reports.proofs.Pieces.{line_more}
use Rattle.sm_reports.proofs.brief.push_values.Goals as goal

pub loop-i-preserved : goal.loop-i-preserved
loop-i-preserved c =
    let n : FitsSigned w128 c.numerator_at.result = search rules in
    let d : FitsSigned w128 c.from-d.result = search rules in
    let made = c.loop-i.into.items in
    let v = c.index-vars-i.result in
    let p = point_of c.args.best.now in
    let told : c.push_value.new.into.items ≡ made ++ value_line c.as_slice.result.now c.numerator_at.result c.from-d.result = simp to_z-of_z at c.in_ok-push_value.ensures in
    let same : c.from-d.result ≡ p.denominator = simp to_z-of_z at c.loop-i.invariant.same in
    let at : c.numerator_at.result ≡ p.numerator c.loop-i.i = c.numerator_at.ensures in
    record {
      same = c.loop-i.invariant.same;
      left = line_more p c.args.vars.now c.loop-i.i v _ made c.push_value.new.into.items c.loop-i-test.true c.index-vars-i.is c.loop-i.invariant.left
          (told ∙ ap (λ (name : List ℕ). made ++ value_line name c.numerator_at.result c.from-d.result) c.as_slice.ensures ∙ ap₂ (λ (x y : ℤ). made ++ value_line v.name x y) at same);
    }
