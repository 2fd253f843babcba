use Rattle.std.proofs.Common.{arith, refl, ◌≡◌, inl, inr, subst}
use Rattle.std.proofs.lemmas.Bool.{cases_lt}
use Rattle.sm_kinds.specs.Disjunctive.{AreApart}
use Rattle.sm_kinds.specs.Tasks.{no_task, task_at}
use Rattle.sm_kinds.proofs.Pairs.{pairs_at}
use Rattle.sm_kinds.proofs.disjunctive.holds.Goals as goal

pub returns : goal.returns
returns g c =
    let same = pairs_at (AreApart (g.V.Values.point c.args.a.now)) c.args.tasks.now no_task in
    ((λ _. same.0 (λ j k lt within. c.loop-i.invariant j k (omega (arith, lt, within, c.loop-i-test.false)) lt within)), (λ _. refl))

pub loop-i-preserved : goal.loop-i-preserved
loop-i-preserved g c = λ j k below up within. elim (cases_lt j c.loop-i.i) [
  | inl early ↦ c.loop-i.invariant j k early up within
  | inr last ↦
      let is : c.loop-i.i ≡ j = omega arith in
      subst (λ m. AreApart (g.V.Values.point c.args.a.now) (task_at c.args.tasks.now m) (task_at c.args.tasks.now k)) is (c.apart_from_later.ensures.0 c.if-not-apart_from_later.false k (omega arith) within)
]
