use Rattle.std.proofs.Common.{arith, ◌≡◌, ◌∙◌, ap, false, List, length}
use Rattle.sm_kinds.specs.declared.logic.Clause.{Clause}
use Rattle.sm_kinds.specs.Logic.{satisfies_each}
use Rattle.sm_clausify.specs.Propositions.{meaning}
use Rattle.sm_clausify.proofs.Satisfied.{clauses_satisfied}
use Rattle.sm_clausify.proofs.Counted.{few_tallied, many_tallied}
use Rattle.sm_clausify.proofs.clausify.clauses.Goals as goal

pub returns-then-count-gt-MOST_CLAUSES-clause-many : goal.returns-then-count-gt-MOST_CLAUSES-clause-many
returns-then-count-gt-MOST_CLAUSES-clause-many c = λ n is.
    many_tallied c.args.formula.now c.in-Ok.tally c.clauses-count.result n c.in-Ok.ensures c.clauses-count.ensures c.if-count-gt-MOST_CLAUSES.true (let same : c.clauses-count.result ≡ n = cc in same)

pub returns-in-Ok-clauses_at-clause-same : goal.returns-in-Ok-clauses_at-clause-same
returns-in-Ok-clauses_at-clause-same c = λ a positive whole. ap (satisfies_each a) c.in-Ok-clauses_at.ensures ∙ clauses_satisfied a positive (meaning c.args.formula.now) false whole

pub returns-in-Ok-clauses_at-clause-few : goal.returns-in-Ok-clauses_at-clause-few
returns-in-Ok-clauses_at-clause-few c =
    let few = few_tallied c.args.formula.now c.in-Ok.tally c.clauses-count.result c.in-Ok.ensures c.clauses-count.ensures (omega (arith, c.if-count-gt-MOST_CLAUSES.false)) in
    let long = ap (λ (cs : List Clause). length cs) c.in-Ok-clauses_at.ensures in
    omega (arith, few, long)
