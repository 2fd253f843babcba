-- The flat form of a demand is satisfied exactly where the demand holds.
use Rattle.std.proofs.Common.{◌≡◌, ◌∙◌, ap, refl, sym, subst, ◌↔◌, ℕ, ◌≤◌, arith, List, ◌++◌, length, false}
use Rattle.std.specs.Prelude.{◌≢◌}
use Rattle.std.proofs.lemmas.List.{get_or_append_left, length-append}
use Rattle.sm_kinds.specs.declared.linear.Cmp.{Cmp}
use Rattle.sm_kinds.specs.declared.literal.Literal.{Literal}
use Rattle.sm_kinds.specs.declared.linear.LinRow.{LinRow}
use Rattle.sm_kinds.specs.declared.var.Var.{Var}
use Rattle.sm_kinds.specs.declared.var.VarKind.TheVariants.{Real}
use Rattle.sm_kinds.specs.Vars.{IsDiscrete, no_var}
use Rattle.sm_flat.specs.Forms.{Sat}
use Rattle.sm_flat.specs.declared.form.Form.TheVariants as form
use Rattle.sm_clausify.specs.Propositions.{Proposition, literal, negation, conjunction, disjunction, Propositions, no_parts, part, EachLiteral, EachLiteralOfAll}
use Rattle.sm_clausify.proofs.Satisfied.{clauses_satisfied}
use Rattle.sm_forms.specs.Meanings.{Values, Meaning}
use Rattle.sm_meaning.specs.Demands.{Demand, row, formula, row_when, kind, Holds, point_of}
use Rattle.sm_flattening.specs.Flattening.{row_of, form_of}
use Rattle.sm_flattening.specs.Regularity.{IsAffine, HasAffineRow, HasDiscreteLiterals, HasWholeLiterals, IsRegular}
use Rattle.sm_flattening.proofs.Affine.{row_holds, more_terms, affine_wider}

-- Rows move their constants to the other side, the clauses of a formula are satisfied where it holds, and a kind is itself.
pub demand_holds : (n : ℕ) (d : Demand) (a : Values) → HasAffineRow n d → HasWholeLiterals d a → Sat (form_of n d) (point_of a) ↔ Holds d a
demand_holds n (row c g) a affine whole = row_holds n c g a affine
demand_holds n (formula q) a affine whole =
    let same = clauses_satisfied (point_of a) a.positive q false whole in ((λ s. sym same ∙ s), (λ h. same ∙ h))
demand_holds n (row_when ls c g) a affine whole =
    let same = row_holds n c g a affine in ((λ s true. same.0 (s true)), (λ h true. same.1 (h true)))
demand_holds n (kind f) a affine whole = ((λ s. s), (λ h. h))

-- ---- more variables

row_same : (m n : ℕ) (c : Cmp) (g : Meaning) → m ≤ n → IsAffine m g → row_of n c g ≡ row_of m c g
row_same m n c g le h = let terms = more_terms m n g le h in simp terms refl

pub form_same : (m n : ℕ) (d : Demand) → m ≤ n → HasAffineRow m d → form_of n d ≡ form_of m d
form_same m n (row c g) le h = ap form.Linear (row_same m n c g le h)
form_same m n (formula q) le h = refl
form_same m n (row_when ls c g) le h = ap (λ (r : LinRow). form.When ls r) (row_same m n c g le h)
form_same m n (kind f) le h = refl

demand_wider : (m n : ℕ) (d : Demand) → m ≤ n → HasAffineRow m d → HasAffineRow n d
demand_wider m n (row c g) le h = affine_wider m n g le h
demand_wider m n (formula q) le h = tt
demand_wider m n (row_when ls c g) le h = affine_wider m n g le h
demand_wider m n (kind f) le h = tt

-- what each literal has by one property, it has by a weaker one
module _ (P Q : Literal → Type 0) (weaker : (l : Literal) → P l → Q l) where
  mutual
    pub each_literal : (q : Proposition) → EachLiteral P q → EachLiteral Q q
    each_literal (literal l) h = weaker l h
    each_literal (negation q) h = each_literal q h
    each_literal (conjunction qs) h = each_of_all qs h
    each_literal (disjunction qs) h = each_of_all qs h

    each_of_all : (qs : Propositions) → EachLiteralOfAll P qs → EachLiteralOfAll Q qs
    each_of_all no_parts h = tt
    each_of_all (part q qs) h = (each_literal q h.0, each_of_all qs h.1)

pub discrete_wider : (vars more : List Var) (v : ℕ) → IsDiscrete vars v → IsDiscrete (vars ++ more) v
discrete_wider vars more v h = record {
  known = omega (arith, h.known, length-append vars more);
  kind = subst (λ (x : Var). x.kind ≢ Real) (sym (get_or_append_left vars more no_var v h.known)) h.kind;
}

literals_wider : (vars more : List Var) (d : Demand) → HasDiscreteLiterals vars d → HasDiscreteLiterals (vars ++ more) d
literals_wider vars more (row c g) h = tt
literals_wider vars more (formula q) h =
    each_literal (λ (l : Literal). IsDiscrete vars l.var) (λ (l : Literal). IsDiscrete (vars ++ more) l.var) (λ l. discrete_wider vars more l.var) q h
literals_wider vars more (row_when ls c g) h = tt
literals_wider vars more (kind f) h = tt

pub regular_wider : (vars more : List Var) (d : Demand) → IsRegular vars d → IsRegular (vars ++ more) d
regular_wider vars more d h = record {
  affine = demand_wider (length vars) (length (vars ++ more)) d (omega (arith, length-append vars more)) h.affine;
  discrete = literals_wider vars more d h.discrete;
}
