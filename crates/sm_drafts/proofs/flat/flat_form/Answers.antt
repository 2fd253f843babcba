use Rattle.std.proofs.Common.{subst}
use Rattle.sm_drafts.specs.Drafts.{IsDraftOf}
use Rattle.sm_drafts.proofs.FormulaDrafts.{clauses_passed}
use Rattle.sm_drafts.proofs.flat.flat_form.Goals as goal

pub returns-in_ok-clauses-in-Formula : goal.returns-in_ok-clauses-in-Formula
returns-in_ok-clauses-in-Formula c = λ n d h count.
    clauses_passed n d c.in-Formula.formula c.in_ok-clauses-in-Formula.field-0 count (subst (IsDraftOf n d) c.in-Formula.is h) (c.in_ok-clauses-in-Formula.ensures count)
