use Rattle.std.proofs.Common.{arith, ◌≡◌, inl, inr, subst}
use Rattle.std.proofs.lemmas.Bool.{cases_lt}
use Rattle.sm_kinds.specs.Disjunctive.{AreApart}
use Rattle.sm_kinds.specs.Tasks.{task_at}
use Rattle.sm_kinds.proofs.disjunctive.apart_from_later.Goals as goal

pub loop-j-preserved : goal.loop-j-preserved
loop-j-preserved g c = λ k up below. elim (cases_lt k c.loop-j.j) [
  | inl early ↦ c.loop-j.invariant k up early
  | inr last ↦
      let is : c.loop-j.j ≡ k = omega arith in
      subst (λ m. AreApart (g.V.Values.point c.args.a.now) (task_at c.args.tasks.now c.args.i) (task_at c.args.tasks.now m)) is (c.are_apart.ensures.0 c.if-not-are_apart.false)
]
