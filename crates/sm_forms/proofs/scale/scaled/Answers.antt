use Rattle.std.proofs.Common.{rules, ◌≡◌, ◌∙◌, ◌<◌, ap, sym, subst, arith, length, add-one, ℕ, ℤ, List, None, get_or, set, slice_index_or, w64, FitsSigned}
use Rattle.std.specs.Int.{w128}
use Rattle.std.specs.Prelude.{◌*ℤ◌}
use Rattle.std.proofs.lemmas.Int.{to_z-of_z}
use Rattle.std.proofs.lemmas.Result.{err_from_is_err_and}
use Rattle.std.proofs.Math.Seq.{drop-length}
use Rattle.sm_kinds.specs.Sums.{sum_at}
use Rattle.sm_forms.specs.Forms.{Rises}
use Rattle.sm_forms.proofs.Coefficients.{small_is_none}
use Rattle.sm_forms.proofs.Merges.{no_term}
use Rattle.sm_forms.proofs.Scaling.{above_scaled, length-part_scaled, get_or-part_scaled, set-part_scaled, part_scaled-all, sum_at-all_scaled, rises-all_scaled, scaling_stops, scaling_goes_on}
use Rattle.sm_forms.proofs.scale.scaled.Goals as goal

pub bounds-as_slice-i : goal.bounds-as_slice-i
bounds-as_slice-i c =
    let same = ap (λ us. length us) (c.as_slice.ensures ∙ c.loop-i.invariant.terms) ∙ length-part_scaled _ c.loop-i.i c.args.terms in
    omega (arith, same, c.loop-i-test.true, c.loop-i.invariant.ends)

pub bounds-as_slice-i-in-loop-i : goal.bounds-as_slice-i-in-loop-i
bounds-as_slice-i-in-loop-i c =
    let same = ap (λ us. length us) (c.as_slice.ensures ∙ c.loop-i.invariant.terms) ∙ length-part_scaled _ c.loop-i.i c.args.terms in
    omega (arith, same, c.loop-i-test.true, c.loop-i.invariant.ends)

pub set-requires : goal.set-requires
set-requires c =
    let same = ap (λ us. length us) c.loop-i.invariant.terms ∙ length-part_scaled _ c.loop-i.i c.args.terms in
    omega (arith, same, c.loop-i-test.true, c.loop-i.invariant.ends)

pub returns-in_err-within-clause-large : goal.returns-in_err-within-clause-large
returns-in_err-within-clause-large c =
    let ts = c.args.terms in
    let i = c.loop-i.i in
    let p = err_from_is_err_and c.from_residual.result c.from_residual.ensures.1 in
    let b = to_z-of_z w64 c.args.by c.ranges.by in
    let t = slice_index_or c.as_slice.result.now i no_term in
    let fits : FitsSigned w64 t.1 = search rules in
    let whole : FitsSigned w128 c.product.result = search rules in
    let same = ap (λ us. get_or us i no_term) (c.as_slice.ensures ∙ c.loop-i.invariant.terms) ∙ get_or-part_scaled _ i ts no_term in
    let is : c.product.result ≡ c.args.by *ℤ (get_or ts i no_term).1 =
    rw (b, to_z-of_z w64 t.1 fits) at c.product.ensures ∙ ap (λ (x : ℕ × ℤ). c.args.by *ℤ x.1) same in
    let large = rw (to_z-of_z w128 c.product.result whole, is) at c.in_err-within.ensures.large in
    rw (p.1, p.2) (λ n a. scaling_stops c.args.by i ts _ n (omega (arith, c.loop-i-test.true, c.loop-i.invariant.ends)) (rw b at c.loop-i.invariant.kept) large a)

-- the term that is read is still the one of the start, and what is written in its place is its multiple, which isn't too large
pub loop-i-preserved : goal.loop-i-preserved
loop-i-preserved c =
    let ts = c.args.terms in
    let i = c.loop-i.i in
    let b = to_z-of_z w64 c.args.by c.ranges.by in
    let z = c.in_ok-within.field-0 in
    let lt : i < length ts = omega (arith, c.loop-i-test.true, c.loop-i.invariant.ends) in
    let t = slice_index_or c.as_slice.result.now i no_term in
    let fits : FitsSigned w64 t.1 = search rules in
    let whole : FitsSigned w128 c.product.result = search rules in
    let narrow : FitsSigned w64 z = search rules in
    let same = ap (λ us. get_or us i no_term) (c.as_slice.ensures ∙ c.loop-i.invariant.terms) ∙ get_or-part_scaled _ i ts no_term in
    let is : z ≡ c.args.by *ℤ (get_or ts i no_term).1 =
    c.in_ok-within.ensures.same ∙ to_z-of_z w128 c.product.result whole ∙ rw (b, to_z-of_z w64 t.1 fits) at c.product.ensures ∙ ap (λ (x : ℕ × ℤ). c.args.by *ℤ x.1) same in
    let none : above_scaled c.args.by (get_or ts i no_term).1 ≡ None = rw is at (small_is_none z c.in_ok-within.ensures.small) in
    let written = rw (to_z-of_z w64 z narrow, is, same) at c.set.ensures in
    let before = rw b at c.loop-i.invariant.terms in
    rw b (record {
      nonzero = rw b at c.loop-i.invariant.nonzero;
      ends = c.loop-i.invariant.ends;
      terms = written ∙ ap (λ us. set us i ((get_or ts i no_term).0, c.args.by *ℤ (get_or ts i no_term).1)) before ∙ rw add-one (set-part_scaled c.args.by i ts lt);
      kept = scaling_goes_on c.args.by i ts lt none (rw b at c.loop-i.invariant.kept);
    })

pub returns-clause-rises : goal.returns-clause-rises
returns-clause-rises c = λ n a.
    let ts = c.args.terms in
    let b = to_z-of_z w64 c.args.by c.ranges.by in
    let end : c.loop-i.i ≡ length ts = omega (arith, c.loop-i-test.false, c.loop-i.invariant.ends, c.loop-i.auto.i-end) in
    let all = rw b at c.loop-i.invariant.terms ∙ part_scaled-all c.args.by c.loop-i.i ts end in
    let none = sym (rw (b, end, drop-length ts) at c.loop-i.invariant.kept) in
    subst (λ (us : List (ℕ × ℤ)). Rises n 0 us) (sym all) (rises-all_scaled c.args.by n 0 ts (rw b at c.loop-i.invariant.nonzero) none a)

pub returns-clause-total : goal.returns-clause-total
returns-clause-total c = λ p.
    let ts = c.args.terms in
    let b = to_z-of_z w64 c.args.by c.ranges.by in
    let end : c.loop-i.i ≡ length ts = omega (arith, c.loop-i-test.false, c.loop-i.invariant.ends, c.loop-i.auto.i-end) in
    let all = rw b at c.loop-i.invariant.terms ∙ part_scaled-all c.args.by c.loop-i.i ts end in
    ap (λ us. sum_at us p) all ∙ sum_at-all_scaled c.args.by ts p
