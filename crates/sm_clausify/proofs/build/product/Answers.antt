use Rattle.std.proofs.Common.{◌≡◌, ◌∙◌, ap, sym, arith, refl, List, [], ◌∷◌, length}
use Rattle.sm_kinds.specs.declared.logic.Clause.{Clause}
use Rattle.sm_clausify.specs.Clauses.{join}
use Rattle.sm_clausify.proofs.Joins.{join-nil}
use Rattle.sm_clausify.proofs.build.product.Goals as goal

nil_of : (cs : List Clause) → length cs ≡ 0 → cs ≡ []
nil_of [] h = refl
nil_of (c ∷ cs) h = absurd (omega arith)

pub returns-in_default : goal.returns-in_default
returns-in_default c = c.new-clauses.ensures.items ∙ sym (ap (join c.args.firsts.items) (nil_of c.args.others.now c.in_default.ensures.cases) ∙ join-nil c.args.firsts.items)
