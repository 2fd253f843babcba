-- The clauses of a draft that is a formula.
use Rattle.std.proofs.Common.{◌≡◌, ◌∙◌, ap, sym, subst, ℕ, ◌≤◌, List, length, false}
use Rattle.sm_kinds.specs.declared.logic.Clause.{Clause}
use Rattle.sm_kinds.specs.Limits.{most_clauses}
use Rattle.sm_flat.specs.declared.form.Form.TheVariants as form
use Rattle.sm_clausify.specs.declared.formula.Formula.{Formula}
use Rattle.sm_clausify.specs.Propositions.{meaning}
use Rattle.sm_clausify.specs.Clauses.{clauses_of}
use Rattle.sm_meaning.specs.Trials.{reached}
use Rattle.sm_meaning.specs.Demands.{Demand, row, formula, row_when, kind}
use Rattle.sm_meaning.specs.Limits.{clauses_tried}
use Rattle.sm_drafts.specs.declared.draft.Draft.TheVariants as draft
use Rattle.sm_drafts.specs.Drafts.{IsDraftOf, IsFlatForm}

pub clauses_passed : (n : ℕ) (d : Demand) (f : Formula) (cs : List Clause) (count : ℕ) → IsDraftOf n d (draft.Formula f)
    → (clauses_tried (formula (meaning f)) count ≡ reached count) × ((cs ≡ clauses_of (meaning f) false) × (length cs ≤ most_clauses))
    → (clauses_tried d count ≡ reached count) × IsFlatForm n d (form.Logic cs)
clauses_passed n (row c g) f cs count h k = absurd h
clauses_passed n (formula q) f cs count h k = (
  ap (λ p. clauses_tried (formula p) count) h ∙ k.0,
  record {
    form = ap (λ ds. form.Logic ds) (k.1.0 ∙ ap (λ p. clauses_of p false) (sym h));
    few = subst (λ (ds : List Clause). length ds ≤ most_clauses) (k.1.0 ∙ ap (λ p. clauses_of p false) (sym h)) k.1.1;
  },
)
clauses_passed n (row_when ls c g) f cs count h k = absurd h
clauses_passed n (kind x) f cs count h k = absurd h
