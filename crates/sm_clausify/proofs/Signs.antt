-- At a whole value the complement of a literal is true where the literal isn't.
use Rattle.std.proofs.Common.{◌≡◌, ◌∙◌, ap, sym, refl, arith, Bool, true, false, not}
use Rattle.std.specs.Prelude.{ℤ, pos, ◌*ℤ◌, ◌<ℤ◌, ◌≤ℤ◌}
use Rattle.std.specs.Ordering.{int_eq}
use Rattle.std.proofs.lemmas.Int.{ints}
use Rattle.sm_kinds.specs.declared.literal.Literal.{Literal}
use Rattle.sm_kinds.specs.declared.literal.Test.{Test}
use Rattle.sm_kinds.specs.declared.literal.Test.TheVariants.{AtMost, AtLeast, Equal, Unequal}
use Rattle.sm_kinds.specs.Literals.{passes_test, opposite, beyond, complement}
use Rattle.sm_kinds.specs.Points.{Point}
use Rattle.sm_kinds.specs.Literals.{is_true}
use Rattle.sm_kinds.specs.Points.{IsWhole}
use Rattle.sm_kinds.proofs.Multiples.{times_le, times_eq}

opposite_passes : (t : Test) (b v : ℤ) → passes_test (opposite t) (beyond t b) v ≡ not (passes_test t b v)
opposite_passes AtMost b v = grind (arith, ints)
opposite_passes AtLeast b v = grind (arith, ints)
opposite_passes Equal b v = refl
opposite_passes Unequal b v = twice (int_eq v b)
  where
    twice : (x : Bool) → x ≡ not (not x)
    twice true = refl
    twice false = refl

scaled_test : (t : Test) (b v d : ℤ) → pos 1 ≤ℤ d → passes_test t (b *ℤ d) (v *ℤ d) ≡ passes_test t b v
scaled_test AtMost b v d p = times_le v b d p
scaled_test AtLeast b v d p = times_le b v d p
scaled_test Equal b v d p = times_eq v b d p
scaled_test Unequal b v d p = ap not (times_eq v b d p)

by_denominator : (t : Test) (b v d : ℤ) → pos 0 <ℤ d → passes_test (opposite t) (beyond t b *ℤ d) (v *ℤ d) ≡ not (passes_test t (b *ℤ d) (v *ℤ d))
by_denominator t b v d p =
    let least : pos 1 ≤ℤ d = omega (arith, ints) in
    scaled_test (opposite t) (beyond t b) v d least ∙ opposite_passes t b v ∙ ap not (sym (scaled_test t b v d least))

pub complement_is : (a : Point) (l : Literal) → pos 0 <ℤ a.denominator → IsWhole a l.var → is_true a (complement l) ≡ not (is_true a l)
complement_is a l p whole =
    ap (passes_test (opposite l.test) (beyond l.test l.bound *ℤ a.denominator)) whole.1
    ∙ by_denominator l.test l.bound whole.0 a.denominator p
    ∙ ap (λ (z : ℤ). not (passes_test l.test (l.bound *ℤ a.denominator) z)) (sym whole.1)
