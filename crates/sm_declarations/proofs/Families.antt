-- A making stays that of the expansion as names and variables come.
use Rattle.std.proofs.Common.{◌≡◌, ◌∙◌, ap, ap₂, sym, refl, subst, ℕ, List, [], ◌∷◌, ◌++◌, map, length, ℤ, nat_lt}
use Rattle.std.proofs.lemmas.List.{length-map, map-append}
use Rattle.sm_kinds.specs.declared.var.Var.{Var}
use Rattle.sm_kinds.specs.declared.var.VarKind.{VarKind}
use Rattle.sm_flat.specs.declared.form.Constraint.{Constraint}
use Rattle.sm_syntax.specs.declared.tree.Name.{Name}
use Rattle.sm_syntax.specs.Trees.{Kind}
use Rattle.sm_data.specs.declared.refusal.Counted.TheVariants as counted
use Rattle.sm_syntax.specs.Expressions.{Expression}
use Rattle.sm_meaning.specs.declared.refusal.Wrong.TheVariants.{Shape}
use Rattle.sm_meaning.specs.Refusals.{wrong_if, count_over}
use Rattle.sm_meaning.specs.ExpressionTrials.{new_tried, set_tried}
use Rattle.sm_meaning.specs.Cases.{number_tried}
use Rattle.sm_meaning.specs.Tuples.{size_of, member_count}
use Rattle.sm_meaning.specs.Trials.{Trial, reached, tried, ◌▸◌, each_tried}
use Rattle.sm_meaning.specs.Scopes.{Names, Thing, Scope}
use Rattle.sm_meaning.specs.Expansions.{Declared, Expansion, vars_of, scope_of, with_name}
use Rattle.sm_meaning.specs.Declarations.{index_tuples, ranges_of, declared_as, members_of, thing_of, var_tried, with_var, most_members_of_set, range_of, kind_tried, var_limits_tried}
use Rattle.sm_flattening.specs.FlatParts.{AreFlatParts}
use Rattle.sm_flattening.specs.Regularity.{AreRegular}
use Rattle.sm_flattening.proofs.FlatParts as flat
use Rattle.sm_flattening.proofs.Members.{added}
use Rattle.sm_flattening.proofs.Reached.{reaches}
use Rattle.sm_drafts.specs.declared.adding.Totals.{Totals}
use Rattle.sm_drafts.specs.Sums.{AreTotals}
use Rattle.sm_drafts.proofs.Growing as growing
use Rattle.sm_declarations.specs.declared.making.Making.{Making}
use Rattle.sm_declarations.specs.Making.{IsMakingOf}
use Rattle.sm_declarations.specs.Growth.{HasDeclared, family_vars}

-- the name alone has come
pub named : (e : Expansion) (old new : Making) (name : List ℕ) (t : Thing) → IsMakingOf e old
    → new.scope.names ≡ old.scope.names ++ (name, t) ∷ [] → new.scope.kinds ≡ old.scope.kinds → new.vars.items ≡ old.vars.items → new.places.items ≡ old.places.items
    → new.constraints.items ≡ old.constraints.items → new.totals ≡ old.totals → IsMakingOf (with_name e name t) new
named e old new name t m names kinds vars places constraints totals = record {
  scope = ap₂ (λ (ns : Names) (ks : List VarKind). record { names = ns; kinds = ks }) (names ∙ ap (λ (s : Scope). s.names ++ (name, t) ∷ []) m.scope) (kinds ∙ ap (λ (s : Scope). s.kinds) m.scope);
  places = places ∙ m.places;
  parts = subst (λ (vs : List Var). AreFlatParts (with_name e name t) vs new.constraints.items) (sym vars)
      (subst (λ (cs : List Constraint). AreFlatParts (with_name e name t) old.vars.items cs) (sym constraints) (flat.named e old.vars.items old.constraints.items m.parts name t));
  totals = subst (λ (x : Totals). AreTotals (with_name e name t) x) (sym totals) (growing.named e old.totals name t m.totals);
}

places_of : (name : Name) (k : Kind) (s : Scope) (zss : List (List ℤ))
    → map (λ (v : Var). name.place) (map (λ (d : Declared). d.var) (map (declared_as name k s) zss)) ≡ map (λ (d : Declared). d.place) (map (declared_as name k s) zss)
places_of name k s [] = refl
places_of name k s (zs ∷ zss) = ap (λ ps. name.place ∷ ps) (places_of name k s zss)

-- The name and the variables of a declaration have come, of which nothing was refused.
pub declared : (e : Expansion) (old new : Making) (name : Name) (sets : List Name) (k : Kind) (count after : ℕ) → IsMakingOf e old
    → var_tried name sets k e count ≡ reached after → HasDeclared old new name sets k old.scope → IsMakingOf (with_var name sets k e) new
declared e old new name sets k count after m goes h =
    let s = scope_of e in
    let ds = members_of name sets k s in
    let more = added e name sets k in
    let kind = λ (v : Var). v.kind in
    let t = thing_of (length e.variables) (ranges_of e.names sets) in
    let f = with_var name sets k e in
    let same : family_vars name (ranges_of old.scope.names sets) k old.scope ≡ more = ap (λ (x : Scope). family_vars name (ranges_of x.names sets) k x) m.scope in
    let long : length old.vars.items ≡ length e.variables = ap (λ vs. length vs) m.parts.flattened.variables ∙ length-map e.variables (λ (d : Declared). d.var) in
    let names : new.scope.names ≡ f.names =
    h.names ∙ ap (λ (x : Scope). x.names ++ (name.text, thing_of (length old.vars.items) (ranges_of x.names sets)) ∷ []) m.scope
    ∙ ap (λ (n : ℕ). e.names ++ (name.text, thing_of n (ranges_of e.names sets)) ∷ []) long in
    let kinds : new.scope.kinds ≡ (scope_of f).kinds =
    h.grows.kinds ∙ ap₂ (λ ks vs. ks ++ map kind vs) (ap (λ (x : Scope). x.kinds) m.scope) same
    ∙ sym (map-append kind (vars_of e) more) ∙ ap (λ vs. map kind vs) (sym (map-append (λ (d : Declared). d.var) e.variables ds)) in
    record {
      scope = ap₂ (λ (ns : Names) (ks : List VarKind). record { names = ns; kinds = ks }) names kinds;
      places = h.grows.places ∙ ap₂ (λ ps vs. ps ++ map (λ (v : Var). name.place) vs) m.places same
          ∙ ap (λ ps. map (λ (d : Declared). d.place) e.variables ++ ps) (places_of name k s (index_tuples (ranges_of s.names sets)))
          ∙ sym (map-append (λ (d : Declared). d.place) e.variables ds);
      parts = subst (λ (vs : List Var). AreFlatParts f vs new.constraints.items) (sym (h.grows.vars ∙ ap (λ vs. old.vars.items ++ vs) same))
          (subst (λ (cs : List Constraint). AreFlatParts f (old.vars.items ++ more) cs) (sym h.grows.constraints)
          (flat.declared e old.vars.items old.constraints.items m.parts name sets k (reaches (var_tried name sets k e) count after goes)));
      totals = subst (λ (x : Totals). AreTotals f x) (sym h.grows.totals)
          (growing.declared (with_name e name.text t) old.totals ds (subst (λ (vs : List Var). AreRegular vs e.posts) m.parts.flattened.variables m.parts.flattened.regular)
          (growing.named e old.totals name.text t m.totals));
    }

-- ---- what is tried of declarations

-- what is tried of the ends of an index set
abbrev pub range_tried : Scope → Expression → Expression → Trial
range_tried s x y = number_tried s x [] ▸ number_tried s y [] ▸ tried (count_over counted.Size most_members_of_set (size_of (range_of s x y)))

-- what is tried of a declaration of variables, over these names, part by part
abbrev pub limits_of : Name → List Name → Kind → Expansion → Scope → Trial
limits_of name sets k e s = var_limits_tried e s (member_count (ranges_of s.names sets)) k

abbrev pub behind_few : Name → List Name → Kind → Expansion → Scope → Trial
behind_few name sets k e s = kind_tried s k ▸ limits_of name sets k e s

abbrev pub few_tried : Name → List Name → Trial
few_tried name sets = tried (wrong_if (nat_lt 3 (length sets)) name.place Shape)

abbrev pub behind_sets : Name → List Name → Kind → Expansion → Scope → Trial
behind_sets name sets k e s = few_tried name sets ▸ behind_few name sets k e s

abbrev pub sets_tried : List Name → Scope → Trial
sets_tried sets s = each_tried (set_tried s []) sets

abbrev pub behind_new : Name → List Name → Kind → Expansion → Scope → Trial
behind_new name sets k e s = sets_tried sets s ▸ behind_sets name sets k e s

abbrev pub all_tried : Name → List Name → Kind → Expansion → Scope → Trial
all_tried name sets k e s = new_tried s [] name ▸ behind_new name sets k e s
