-- What is flattened stays so as names, variables and posts come to the expansion.
use Rattle.std.proofs.Common.{◌≡◌, ◌∙◌, ap, ap₂, refl, sym, ℕ, arith, List, [], ◌∷◌, ◌++◌, map, length}
use Rattle.std.proofs.lemmas.List.{map-append, length-append}
use Rattle.std.proofs.lemmas.List.Elements.{All-nil, All-head, All-tail, All-push, All-weaker}
use Rattle.sm_kinds.specs.declared.var.Var.{Var}
use Rattle.sm_flat.specs.declared.form.Constraint.{Constraint}
use Rattle.sm_flat.specs.declared.form.Form.{Form}
use Rattle.sm_data.specs.Documents.{Entry}
use Rattle.sm_meaning.specs.Scopes.{Thing}
use Rattle.sm_meaning.specs.Declarations.{with_variables}
use Rattle.sm_meaning.specs.Expansions.{Post, Declared, Expansion, beginning, with_name, with_posts}
use Rattle.sm_flattening.specs.Flattening.{form_of, constraint_of, constraints_of, IsFlattened}
use Rattle.sm_flattening.specs.Regularity.{IsRegular, AreRegular}
use Rattle.sm_flattening.proofs.Constraints.{form_same, regular_wider}

pub begins : (tables : List Entry) → IsFlattened (beginning tables) [] []
begins tables = record { regular = All-nil (λ (p : Post). IsRegular [] p.demand); variables = refl; constraints = refl }

constraint_same : (m n : ℕ) (p : Post) → form_of n p.demand ≡ form_of m p.demand → constraint_of n p ≡ constraint_of m p
constraint_same m n p same = ap (λ (f : Form). record { form = f; tags = p.tags }) same

-- further variables leave the constraints of regular posts as they are
constraints_same : (vars more : List Var) (ps : List Post) → AreRegular vars ps → constraints_of (length (vars ++ more)) ps ≡ constraints_of (length vars) ps
constraints_same vars more [] regular = refl
constraints_same vars more (p ∷ ps) regular =
    let first = All-head (λ (p : Post). IsRegular vars p.demand) p ps regular in
    ap₂ (λ (c : Constraint) cs. c ∷ cs)
    (constraint_same (length vars) (length (vars ++ more)) p (form_same (length vars) (length (vars ++ more)) p.demand (omega (arith, length-append vars more)) first.affine))
    (constraints_same vars more ps (All-tail (λ (p : Post). IsRegular vars p.demand) p ps regular))

are_regular_wider : (vars more : List Var) (ps : List Post) → AreRegular vars ps → AreRegular (vars ++ more) ps
are_regular_wider vars more ps = All-weaker (λ (p : Post). IsRegular vars p.demand) (λ (p : Post). IsRegular (vars ++ more) p.demand) (λ p. regular_wider vars more p.demand) ps

module _ (e : Expansion) (vars : List Var) (cs : List Constraint) (h : IsFlattened e vars cs) where
  pub named : (name : List ℕ) (t : Thing) → IsFlattened (with_name e name t) vars cs
  named name t = record { regular = h.regular; variables = h.variables; constraints = h.constraints }

  pub declared : (ds : List Declared) → IsFlattened (with_variables e ds) (vars ++ map (λ (d : Declared). d.var) ds) cs
  declared ds = let more = map (λ (d : Declared). d.var) ds in record {
    regular = are_regular_wider vars more e.posts h.regular;
    variables = ap (λ (vs : List Var). vs ++ more) h.variables ∙ sym (map-append (λ (d : Declared). d.var) e.variables ds);
    constraints = h.constraints ∙ sym (constraints_same vars more e.posts h.regular);
  }

  pub posted_one : (p : Post) (c : Constraint) → IsRegular vars p.demand → c ≡ constraint_of (length vars) p → IsFlattened (with_posts e (p ∷ [])) vars (cs ++ c ∷ [])
  posted_one p c regular same = record {
    regular = All-push (λ (q : Post). IsRegular vars q.demand) e.posts p h.regular regular;
    variables = h.variables;
    constraints = ap₂ (λ xs (x : Constraint). xs ++ x ∷ []) h.constraints same ∙ sym (map-append (constraint_of (length vars)) e.posts (p ∷ []));
  }
