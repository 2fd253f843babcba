-- The names of the members of a family.
use Rattle.std.proofs.Common.{◌≡◌, ◌∙◌, ap, ap₂, sym, refl, arith, List, ℕ, [], ◌∷◌, ◌++◌, map, length, ℤ, append_assoc}
use Rattle.std.specs.Prelude.{min}
use Rattle.std.specs.List.{flat_map}
use Rattle.std.proofs.lemmas.List.{length-map, map-append}
use Rattle.sm_syntax.specs.declared.tree.Name.{Name}
use Rattle.sm_syntax.specs.Trees.{Kind}
use Rattle.sm_meaning.specs.declared.range.Range.{Range}
use Rattle.sm_meaning.specs.Scopes.{Scope}
use Rattle.sm_meaning.specs.Tuples.{member_count}
use Rattle.sm_meaning.specs.Expansions.{Declared}
use Rattle.sm_meaning.specs.Declarations.{member_name, index_tuples, declared_as, kind_of, domain_of}
use Rattle.sm_flattening.proofs.Members.{tuples_count}

-- the names of the members whose indices begin with these and a number
abbrev pub behind : List ℕ → List ℤ → List Range → ℤ → List (List ℕ)
behind name indices rest z = map (λ zs. member_name name ((indices ++ z ∷ []) ++ zs)) (index_tuples rest)

behind_one : (name : List ℕ) (indices : List ℤ) (z : ℤ) (tss : List (List ℤ))
    → map (λ zs. member_name name ((indices ++ z ∷ []) ++ zs)) tss ≡ map (λ zs. member_name name (indices ++ zs)) (map (λ zs. z ∷ zs) tss)
behind_one name indices z [] = refl
behind_one name indices z (ts ∷ tss) = ap₂ (λ n ns. n ∷ ns) (ap (λ zs. member_name name zs) (append_assoc indices (z ∷ []) ts)) (behind_one name indices z tss)

pub behind_all : (name : List ℕ) (indices : List ℤ) (rest : List Range) (numbers : List ℤ)
    → flat_map (behind name indices rest) numbers ≡ map (λ zs. member_name name (indices ++ zs)) (flat_map (λ z. map (λ zs. z ∷ zs) (index_tuples rest)) numbers)
behind_all name indices rest [] = refl
behind_all name indices rest (z ∷ zs) =
    ap₂ (λ xs ys. xs ++ ys) (behind_one name indices z (index_tuples rest)) (behind_all name indices rest zs)
    ∙ sym (map-append (λ ts. member_name name (indices ++ ts)) (map (λ ts. z ∷ ts) (index_tuples rest)) (flat_map (λ y. map (λ ts. y ∷ ts) (index_tuples rest)) zs))

none_long : {X : Type 0} (xs : List X) → length xs ≡ 0 → xs ≡ []
none_long [] h = refl
none_long (x ∷ xs) h = absurd (omega arith)

-- a family without members
pub no_names : (name : List ℕ) (rs : List Range) (n : ℕ) → n ≡ min (member_count rs) 4097 → n ≡ 0 → [] ≡ map (member_name name) (index_tuples rs)
no_names name rs n is none = sym (ap (λ tss. map (member_name name) tss) (none_long (index_tuples rs) (omega (arith, tuples_count rs, is, none))))

pub names_count : (name : List ℕ) (rs : List Range) → length (map (member_name name) (index_tuples rs)) ≡ member_count rs
names_count name rs = length-map (index_tuples rs) (member_name name) ∙ tuples_count rs

pub vars_named : (name : Name) (k : Kind) (s : Scope) (tss : List (List ℤ))
    → map (λ n. record { name = n; kind = kind_of k; values = domain_of s k }) (map (member_name name.text) tss) ≡ map (λ (d : Declared). d.var) (map (declared_as name k s) tss)
vars_named name k s [] = refl
vars_named name k s (ts ∷ tss) = ap (λ vs. (record { name = member_name name.text ts; kind = kind_of k; values = domain_of s k }) ∷ vs) (vars_named name k s tss)
