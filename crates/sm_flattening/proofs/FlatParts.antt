-- The flat parts of an expansion stay so as names, variables and constraints come that are not refused.
use Rattle.std.proofs.Common.{◌≡◌, ◌∙◌, ap, sym, refl, subst, ℕ, arith, List, [], ◌∷◌, ◌++◌, map, length, sum_by, Bool, if◌then◌else◌}
use Rattle.std.specs.Prelude.{All}
use Rattle.std.proofs.lemmas.List.{length-map, length-append}
use Rattle.std.proofs.lemmas.List.Elements.{All-nil, All-push}
use Rattle.sm_kinds.specs.declared.var.Var.{Var}
use Rattle.sm_kinds.specs.Vars.{IsDomain}
use Rattle.sm_flat.specs.declared.form.Constraint.{Constraint}
use Rattle.sm_flat.specs.declared.form.Form.{Form}
use Rattle.sm_flat.specs.declared.form.Form.TheVariants as form
use Rattle.sm_flat.specs.Forms as flat
use Rattle.sm_flat.specs.Forms.{IsConstraint}
use Rattle.sm_flat.specs.Limits.{one_if_real_row, AreVars}
use Rattle.sm_data.specs.Documents.{Entry}
use Rattle.sm_syntax.specs.declared.tree.Choosing.TheVariants as choosing
use Rattle.sm_syntax.specs.declared.tree.Name.{Name}
use Rattle.sm_syntax.specs.Trees as tree
use Rattle.sm_meaning.specs.Scopes.{Thing, Scope, Tuple}
use Rattle.sm_meaning.specs.Demands.{Demand, row, formula, row_when, kind, demand_of}
use Rattle.sm_meaning.specs.Expansions.{Post, Expansion, beginning, scope_of, with_name, with_posts, post_at}
use Rattle.sm_meaning.specs.Limits as limit
use Rattle.sm_meaning.specs.Limits.{is_real_row, real_rows, total_of}
use Rattle.sm_meaning.specs.Declarations.{var_tried, with_var, members_of, thing_of, ranges_of}
use Rattle.sm_meaning.specs.Models.{post_tried}
use Rattle.sm_flattening.specs.Flattening.{form_of, constraint_of, IsFlattened}
use Rattle.sm_flattening.specs.Regularity.{HasAffineRow, HasDiscreteLiterals, IsRegular, HasFewClauses, HaveFewClauses}
use Rattle.sm_flattening.specs.FlatParts.{HasOwnKind, AreFlatParts}
use Rattle.sm_flattening.proofs.Counts.{size_same, real_meaning}
use Rattle.sm_flattening.proofs.Fitting.{PostFits, post_fits}
use Rattle.sm_flattening.proofs.Kept.{constraints_kept}
use Rattle.sm_flattening.proofs.Lists.{sum_same, sum_images}
use Rattle.sm_flattening.proofs.Members.{added, vars_fit}
use Rattle.sm_flattening.proofs.Reached.{Reaches}
use Rattle.sm_flattening.proofs.Steps as steps

-- ---- what is counted of constraints and of posts

-- a row has a real variable where its flat form has one
row_counted : (vars : List Var) (s : Scope) (d : Demand) → s.kinds ≡ map (λ (v : Var). v.kind) vars → HasOwnKind d
    → one_if_real_row vars (form_of (length vars) d) ≡ (if is_real_row s d then 1 else 0)
row_counted vars s (row c g) kinds own = ap (λ (b : Bool). if b then 1 else 0) (real_meaning vars s kinds g)
row_counted vars s (formula q) kinds own = refl
row_counted vars s (row_when ls c g) kinds own = ap (λ (b : Bool). if b then 1 else 0) (real_meaning vars s kinds g)
row_counted vars s (kind f) kinds own = by_form f own
  where
    by_form : (f : Form) → HasOwnKind (kind f) → one_if_real_row vars f ≡ 0
    by_form (form.Linear r) own = absurd (own.0 refl)
    by_form (form.Logic cs) own = refl
    by_form (form.When ls r) own = absurd (own.1 refl)
    by_form (form.Alldiff xs) own = refl
    by_form (form.Element x es z) own = refl
    by_form (form.IndexSum c) own = refl
    by_form (form.Cumulative capacity ts) own = refl
    by_form (form.Disjunctive ts) own = refl
    by_form (form.Packing p) own = refl
    by_form (form.Circuit xs) own = refl
    by_form (form.Assign c) own = refl

module _ (e : Expansion) (vars : List Var) (cs : List Constraint) (h : IsFlattened e vars cs) where
  count_counted : length cs ≡ length e.posts
  count_counted = ap (λ xs. length xs) h.constraints ∙ length-map e.posts (constraint_of (length vars))

  -- what is counted of each constraint is counted of its post
  by_post : (f : Constraint → ℕ) (g : Post → ℕ) → All (λ (p : Post). f (constraint_of (length vars) p) ≡ g p) e.posts → sum_by f cs ≡ sum_by g e.posts
  by_post f g same =
      ap (λ xs. sum_by f xs) h.constraints
      ∙ sum_images f (constraint_of (length vars)) e.posts
      ∙ sum_same (λ (p : Post). f (constraint_of (length vars) p)) g e.posts same

  total_counted : HaveFewClauses e.posts → sum_by (λ (c : Constraint). flat.size_of c.form) cs ≡ total_of (length vars) e.posts
  total_counted few =
      by_post (λ (c : Constraint). flat.size_of c.form) (λ (p : Post). limit.size_of (length vars) p.demand)
      (λ k d lt. size_same (length vars) _ (few k d lt))

  rows_counted : All (λ (p : Post). HasOwnKind p.demand) e.posts → sum_by (λ (c : Constraint). one_if_real_row vars c.form) cs ≡ real_rows (scope_of e) e.posts
  rows_counted own =
      by_post (λ (c : Constraint). one_if_real_row vars c.form) (λ (p : Post). if is_real_row (scope_of e) p.demand then 1 else 0)
      (λ k d lt. row_counted vars (scope_of e) _ kinds (own k d lt))
    where
      kinds : (scope_of e).kinds ≡ map (λ (v : Var). v.kind) vars
      kinds = ap (λ vs. map (λ (v : Var). v.kind) vs) (sym h.variables)

-- ---- posts

-- what a text demands by a kind is no row
own_kind : (c : tree.Constraint) (s : Scope) (b : Tuple) → HasOwnKind (demand_of c s b)
own_kind (tree.linear p x c y) s b = tt
own_kind (tree.logic p f) s b = tt
own_kind (tree.conditional p l ls x c y) s b = tt
own_kind (tree.alldiff p l) s b = ((λ e. absurd (cc)), (λ e. absurd (cc)))
own_kind (tree.circuit p l) s b = ((λ e. absurd (cc)), (λ e. absurd (cc)))
own_kind (tree.element p x l y) s b = ((λ e. absurd (cc)), (λ e. absurd (cc)))
own_kind (tree.chosen p choosing.Indexsum x cs) s b = ((λ e. absurd (cc)), (λ e. absurd (cc)))
own_kind (tree.chosen p choosing.Assign x cs) s b = ((λ e. absurd (cc)), (λ e. absurd (cc)))
own_kind (tree.cumulative p x ts) s b = ((λ e. absurd (cc)), (λ e. absurd (cc)))
own_kind (tree.disjunctive p t ts) s b = ((λ e. absurd (cc)), (λ e. absurd (cc)))
own_kind (tree.packing p x cs os ls) s b = ((λ e. absurd (cc)), (λ e. absurd (cc)))

pub begins : (tables : List Entry) → AreFlatParts (beginning tables) [] []
begins tables = record {
  flattened = steps.begins tables;
  domains = record { few = omega arith; each = All-nil (λ (v : Var). IsDomain v.kind v.values); widths = omega arith; reals = omega arith };
  fitting = record { few = omega arith; each = All-nil (IsConstraint []); total = omega arith; real_rows = omega arith };
  few = All-nil (λ (p : Post). HasFewClauses p.demand);
  kinds = All-nil (λ (p : Post). HasOwnKind p.demand);
}

module _ (e : Expansion) (vars : List Var) (cs : List Constraint) (parts : AreFlatParts e vars cs) where
  pub named : (name : List ℕ) (t : Thing) → AreFlatParts (with_name e name t) vars cs
  named name t = record { flattened = steps.named e vars cs parts.flattened name t; domains = parts.domains; fitting = parts.fitting; few = parts.few; kinds = parts.kinds }

  pub declared : (name : Name) (sets : List Name) (k : tree.Kind) → Reaches (var_tried name sets k e) → AreFlatParts (with_var name sets k e) (vars ++ added e name sets k) cs
  declared name sets k h =
      let t = thing_of (length e.variables) (ranges_of e.names sets) in
      let known = steps.named e vars cs parts.flattened name.text t in
      let same = parts.flattened.variables in
      record {
        flattened = steps.declared (with_name e name.text t) vars cs known (members_of name sets k (scope_of e));
        domains = subst (λ vs. AreVars (vs ++ added e name sets k)) (sym same) (vars_fit e name sets k h (subst AreVars same parts.domains));
        fitting = constraints_kept vars (added e name sets k) cs parts.fitting;
        few = parts.few;
        kinds = parts.kinds;
      }

  -- The constraints with the new one are those of the posts with the new one. What is counted of them is what the limits count
  -- of the posts, and that is tried of the new post.
  posted : (p : Post) (k : Constraint) → HasOwnKind p.demand → PostFits e p → HasAffineRow (length vars) p.demand → k ≡ constraint_of (length vars) p
      → AreFlatParts (with_posts e (p ∷ [])) vars (cs ++ k ∷ [])
  posted p k own fits affine same =
      let flattened = parts.flattened in
      let back = sym flattened.variables in
      let limits = fits.within in
      let regular : IsRegular vars p.demand = record { affine = affine; discrete = subst (λ vs. HasDiscreteLiterals vs p.demand) back fits.discrete } in
      let next = steps.posted_one e vars cs flattened p k regular same in
      let few = All-push (λ (q : Post). HasFewClauses q.demand) e.posts p parts.few limits.clauses in
      let kinds = All-push (λ (q : Post). HasOwnKind q.demand) e.posts p parts.kinds own in
      record {
        flattened = next;
        domains = parts.domains;
        fitting = record {
          few = omega (arith, limits.constraints, length-append cs (k ∷ []), count_counted e vars cs flattened);
          each = All-push (IsConstraint vars) cs k parts.fitting.each
              (subst (IsConstraint vars) (sym same) (subst (λ vs. IsConstraint vs (constraint_of (length vs) p)) back fits.constraint));
          total =
              let counted = total_counted (with_posts e (p ∷ [])) vars (cs ++ k ∷ []) next few in
              let again = ap (λ vs. total_of (length vs) (e.posts ++ p ∷ [])) flattened.variables in
              omega (arith, limits.total, counted, again);
          real_rows = omega (arith, limits.reals, rows_counted (with_posts e (p ∷ [])) vars (cs ++ k ∷ []) next kinds);
        };
        few = few;
        kinds = kinds;
      }

  pub posted_one : (c : tree.Constraint) (ts : List tree.Tag) (b : Tuple) (k : Constraint) → Reaches (post_tried c ts e b) → HasAffineRow (length vars) (demand_of c (scope_of e) b)
      → k ≡ constraint_of (length vars) (post_at c ts (scope_of e) b) → AreFlatParts (with_posts e (post_at c ts (scope_of e) b ∷ [])) vars (cs ++ k ∷ [])
  posted_one c ts b k h = posted (post_at c ts (scope_of e) b) k (own_kind c (scope_of e) b) (post_fits e c ts b h)
