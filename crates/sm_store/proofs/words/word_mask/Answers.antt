use Rattle.std.proofs.Common.{rules, ◌∙◌, ℕ, ◌+◌, ◌*◌, Bool, cond, ap, arith, w64}
use Rattle.std.specs.Prelude.{ℤ, pos, ◌+ℤ◌}
use Rattle.std.proofs.lemmas.Int.{ints, to_z-of_z}
use Rattle.sm_kinds.specs.Literals.{passes_test}
use Rattle.sm_store.proofs.WordPlaces.{shifted}
use Rattle.sm_store.proofs.words.word_mask.Goals as goal
use mir.Val.{SFits}

pub returns : goal.returns
returns c = λ i l.
    let t = c.args.literal.now.test in
    let near : SFits w64 c.near-bound.result = search rules in
    let fits : SFits w64 c.bound_in-place.result = search rules in
    let placed = simp to_z-of_z at c.bound_in-place.ensures in
    let masked = simp to_z-of_z at (c.mask.ensures i l) in
    masked
    ∙ ap (λ (b : Bool). cond {A = ℕ} b 1 0)
    (ap (λ (z : ℤ). passes_test t z (pos i)) placed
    ∙ shifted t c.near-bound.result c.args.base.now c.args.word i
    ∙ c.near-bound.ensures.same t (c.args.base.now +ℤ pos (64 * c.args.word + i)) (omega (arith, ints)))
