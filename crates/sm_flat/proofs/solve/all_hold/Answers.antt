use Rattle.std.proofs.Common.{◌≡◌, arith, inl, inr, subst, refl}
use Rattle.std.proofs.lemmas.Bool.{cases_lt}
use Rattle.std.proofs.lemmas.Option.{slice_get_within}
use Rattle.sm_flat.proofs.Elements.{read_is_element}
use Rattle.sm_flat.specs.declared.form.Constraint.{Constraint}
use Rattle.sm_flat.specs.Forms.{Sat}
use Rattle.sm_flat.proofs.solve.all_hold.Goals as goal

pub loop-k-preserved : goal.loop-k-preserved
loop-k-preserved g c = λ j d below is. elim (cases_lt j c.loop-k.k) [
  | inl early ↦ c.loop-k.invariant j d early is
  | inr last ↦
      let same : c.loop-k.k ≡ j = omega (arith, below, last) in
      let read = read_is_element c.args.constraints.now c.loop-k.k j c.index-constraints-k.result d same is c.index-constraints-k.is in
      subst (λ (x : Constraint). Sat x.form (g.V.Values.point c.args.a.now)) read (c.holds_form.ensures.0 c.if-not-holds_form.false)
]

pub returns : goal.returns
returns g c =
    ((λ _ k d is. let within = slice_get_within c.args.constraints.now k d is in c.loop-k.invariant k d (omega (arith, within, c.loop-k-test.false)) is), (λ _. refl))
