-- Variables that come one after another.
use Rattle.std.proofs.Common.{◌≡◌, ◌∙◌, ap, ap₂, subst, ℕ, ◌+◌, List, map, length, length-append, ℤ, Result, Ok, Err, OnOk}
use Rattle.std.proofs.lemmas.List.{length-map}
use Rattle.sm_kinds.specs.declared.var.Var.{Var}
use Rattle.sm_kinds.specs.declared.var.VarKind.{VarKind}
use Rattle.sm_syntax.specs.declared.place.Place.{Place}
use Rattle.sm_syntax.specs.declared.tree.Name.{Name}
use Rattle.sm_syntax.specs.Trees.{Kind}
use Rattle.sm_meaning.specs.declared.range.Range.{Range}
use Rattle.sm_meaning.specs.Scopes.{Scope, count_of}
use Rattle.sm_meaning.specs.Tuples.{member_count}
use Rattle.sm_meaning.specs.Declarations.{member_name, index_tuples, kind_of, domain_of}
use Rattle.sm_declarations.specs.declared.making.Making.{Making}
use Rattle.sm_declarations.specs.Growth.{Grows, family_vars}
use Rattle.sm_declarations.proofs.Members.{names_count, vars_named}

abbrev pub var_of : VarKind → List ℤ → List ℕ → Var
var_of k values name = record { name = name; kind = k; values = values }

-- the variables of these names are those of the family
pub family_grows : (a b : Making) (name : Name) (ranges : List Range) (k : Kind) (s : Scope) (kind : VarKind) (values : List ℤ) (names : List (List ℕ))
    → names ≡ map (member_name name.text) (index_tuples ranges) → kind ≡ kind_of k → values ≡ domain_of s k
    → Grows a b name.place (map (var_of kind values) names) → Grows a b name.place (family_vars name ranges k s)
family_grows a b name ranges k s kind values names are is domain g =
    let same : map (var_of kind values) names ≡ family_vars name ranges k s =
    ap₂ (λ (x : VarKind) (zs : List ℤ). map (var_of x zs) names) is domain
    ∙ ap (map (var_of (kind_of k) (domain_of s k))) are
    ∙ vars_named name k s (index_tuples ranges) in
    subst (Grows a b name.place) same g

-- so many names
pub family_names : (name : List ℕ) (ranges : List Range) (names : List (List ℕ)) → names ≡ map (member_name name) (index_tuples ranges) → length names ≡ member_count ranges
family_names name ranges names are = ap (λ ns. length ns) are ∙ names_count name ranges

-- so many variables more
pub family_count : (a b : Making) (p : Place) (name : List ℕ) (ranges : List Range) (kind : VarKind) (values : List ℤ) (names : List (List ℕ))
    → names ≡ map (member_name name) (index_tuples ranges) → Grows a b p (map (var_of kind values) names) → count_of b.scope ≡ count_of a.scope + member_count ranges
family_count a b p name ranges kind values names are g =
    let vars = map (var_of kind values) names in
    ap (λ ks. length ks) g.kinds
    ∙ length-append a.scope.kinds (map (λ (v : Var). v.kind) vars)
    ∙ ap (λ (n : ℕ). count_of a.scope + n) (length-map vars (λ (v : Var). v.kind) ∙ length-map names (var_of kind values) ∙ family_names name ranges names are)

-- what follows from what holds of an `Ok`
pub on_ok : {X E : Type 0} (r : Result X E) (P Q : Type 0) → (P → Q) → OnOk r P → OnOk r Q
on_ok (Ok x) P Q f h = f h
on_ok (Err e) P Q f h = tt
