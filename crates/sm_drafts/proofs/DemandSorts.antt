-- A draft tells of which sort its demand is.
use Rattle.std.proofs.Common.{sym, subst, ℕ, List}
use Rattle.sm_kinds.specs.declared.linear.Cmp.{Cmp}
use Rattle.sm_kinds.specs.declared.literal.Literal.{Literal}
use Rattle.sm_flat.specs.declared.form.Form.{Form as Flat}
use Rattle.sm_forms.specs.declared.form.Form.{Form}
use Rattle.sm_forms.specs.Meanings.{Meaning}
use Rattle.sm_forms.specs.Forms.{IsFormOf}
use Rattle.sm_clausify.specs.declared.formula.Formula.{Formula}
use Rattle.sm_clausify.specs.Propositions.{Proposition, meaning}
use Rattle.sm_meaning.specs.Demands.{Demand, row, formula, row_when, kind}
use Rattle.sm_drafts.specs.declared.draft.Draft.TheVariants as draft
use Rattle.sm_drafts.specs.Drafts.{IsDraftOf}

-- what holds of each demand of this sort holds of the draft's demand
pub of_row : (n : ℕ) (d : Demand) (c : Cmp) (f : Form) (P : Demand → Type 0) → IsDraftOf n d (draft.Row c f) → ((g : Meaning) → IsFormOf n g f → P (row c g)) → P d
of_row n (row b g) c f P h k = subst (λ (x : Cmp). P (row x g)) (sym h.0) (k g h.1)
of_row n (formula q) c f P h k = absurd h
of_row n (row_when ls b g) c f P h k = absurd h
of_row n (kind x) c f P h k = absurd h

pub of_formula : (n : ℕ) (d : Demand) (f : Formula) (P : Demand → Type 0) → IsDraftOf n d (draft.Formula f) → P (formula (meaning f)) → P d
of_formula n (row b g) f P h k = absurd h
of_formula n (formula q) f P h k = subst (λ (p : Proposition). P (formula p)) (sym h) k
of_formula n (row_when ls b g) f P h k = absurd h
of_formula n (kind x) f P h k = absurd h

pub of_when : (n : ℕ) (d : Demand) (ls : List Literal) (c : Cmp) (f : Form) (P : Demand → Type 0) → IsDraftOf n d (draft.RowWhen ls c f)
    → ((g : Meaning) → IsFormOf n g f → P (row_when ls c g)) → P d
of_when n (row b g) ls c f P h k = absurd h
of_when n (formula q) ls c f P h k = absurd h
of_when n (row_when ms b g) ls c f P h k = subst (λ (xs : List Literal). P (row_when xs b g)) (sym h.0) (subst (λ (x : Cmp). P (row_when ls x g)) (sym h.1) (k g h.2))
of_when n (kind x) ls c f P h k = absurd h

pub of_kind : (n : ℕ) (d : Demand) (f : Flat) (P : Demand → Type 0) → IsDraftOf n d (draft.Kind f) → P (kind f) → P d
of_kind n (row b g) f P h k = absurd h
of_kind n (formula q) f P h k = absurd h
of_kind n (row_when ls b g) f P h k = absurd h
of_kind n (kind x) f P h k = subst (λ (y : Flat). P (kind y)) (sym h) k
