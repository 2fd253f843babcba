use Rattle.std.proofs.Common.{◌≡◌, ◌%◌, arith, subst, sym, ◌∙◌, ap}
use Rattle.std.specs.Prelude.{pos, ◌≤ℤ◌, unsigned_abs}
use Rattle.std.proofs.lemmas.Bool.{eqb-true, eq-eqb}
use Rattle.std.proofs.lemmas.Int.{ints}
use Rattle.sm_flat.proofs.Whole.{whole_from_rest, rest_of_whole}
use Rattle.sm_flat.proofs.solve.is_whole.Goals as goal

pub returns : goal.returns
returns g c =
    let n = (g.V.Values.point c.args.a.now).numerator c.args.i in
    let d = (g.V.Values.point c.args.a.now).denominator in
    let range = c.denominator.ensures.range in
    let unit : c.from-unit.result ≡ unsigned_abs d = omega (arith, ints, c.from-unit.ensures, c.unsigned_abs.ensures.value, c.denominator.ensures.value) in
    let whole : c.unsigned_abs-whole.result ≡ unsigned_abs n = omega (arith, ints, c.unsigned_abs-whole.ensures.value, c.numerator.ensures.value) in
    let same : c.rest_of.result ≡ unsigned_abs n % unsigned_abs d = c.rest_of.ensures ∙ ap (λ x. x % c.from-unit.result) whole ∙ ap (λ x. unsigned_abs n % x) unit in
    let above = subst (λ x. pos 1 ≤ℤ x) c.denominator.ensures.value range.0 in
    ((λ t. whole_from_rest n d above (sym same ∙ eqb-true c.rest_of.result 0 t)), (λ w. eq-eqb c.rest_of.result 0 (same ∙ rest_of_whole n d w)))
