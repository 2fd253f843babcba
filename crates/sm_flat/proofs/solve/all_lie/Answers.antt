use Rattle.std.proofs.Common.{◌≡◌, arith, inl, inr, subst}
use Rattle.std.proofs.lemmas.Bool.{cases_lt}
use Rattle.sm_kinds.specs.Vars.{LiesIn, var_at, no_var}
use Rattle.sm_kinds.specs.declared.var.Var.{Var}
use Rattle.sm_flat.proofs.Elements.{read_at_default}
use Rattle.sm_flat.proofs.solve.all_lie.Goals as goal

pub loop-i-preserved : goal.loop-i-preserved
loop-i-preserved g c = λ k below. elim (cases_lt k c.loop-i.i) [
  | inl early ↦ c.loop-i.invariant k early
  | inr last ↦
      let same : c.loop-i.i ≡ k = omega (arith, below, last) in
      let read = read_at_default c.args.vars.now c.loop-i.i c.index-vars-i.result no_var c.loop-i-test.true c.index-vars-i.is in
      let here = subst (λ (v : Var). LiesIn v.kind v.values ((g.V.Values.point c.args.a.now).numerator c.loop-i.i) (g.V.Values.point c.args.a.now).denominator) read (c.lies_in.ensures.0 c.if-not-lies_in.false) in
      subst (λ n. LiesIn (var_at c.args.vars.now n).kind (var_at c.args.vars.now n).values ((g.V.Values.point c.args.a.now).numerator n) (g.V.Values.point c.args.a.now).denominator) same here
]
