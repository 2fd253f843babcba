-- Joining clauses: what it is with one empty clause, that brackets don't matter, and how many there are.
use Rattle.std.proofs.Common.{◌≡◌, ◌∙◌, ap, ap₂, sym, refl, arith, ◌*◌, Bool, true, false, not, List, [], ◌∷◌, ◌++◌, length, map, append_assoc, append-nil, length-append}
use Rattle.std.specs.Prelude.{if◌then◌else◌}
use Rattle.std.proofs.lemmas.List.Concat.{flat_map-append}
use Rattle.std.proofs.lemmas.List.{length-map}
use Rattle.sm_kinds.specs.declared.literal.Literal.{Literal}
use Rattle.sm_kinds.specs.declared.logic.Clause.{Clause}
use Rattle.sm_clausify.specs.Propositions.{Proposition, implication, equivalence}
use Rattle.sm_clausify.specs.Clauses.{beside, empty_clause, join, clauses_of}

abbrev made : List Literal → Clause
made ls = record { literals = ls }

-- with one empty clause
pub join-unit : (ys : List Clause) → join (empty_clause ∷ []) ys ≡ ys
join-unit ys = append-nil (map (beside empty_clause) ys) ∙ same ys
  where
    same : (zs : List Clause) → map (beside empty_clause) zs ≡ zs
    same [] = refl
    same (z ∷ zs) = ap (λ (cs : List Clause). z ∷ cs) (same zs)

pub join-unit_right : (xs : List Clause) → join xs (empty_clause ∷ []) ≡ xs
join-unit_right [] = refl
join-unit_right (x ∷ xs) = ap₂ (λ (c : Clause) (cs : List Clause). c ∷ cs) (ap made (append-nil x.literals)) (join-unit_right xs)

pub join-nil : (xs : List Clause) → join xs [] ≡ []
join-nil [] = refl
join-nil (x ∷ xs) = join-nil xs

beside_twice : (x y : Clause) (zs : List Clause) → map (beside (beside x y)) zs ≡ map (beside x) (map (beside y) zs)
beside_twice x y [] = refl
beside_twice x y (z ∷ zs) = ap₂ (λ (c : Clause) (cs : List Clause). c ∷ cs) (ap made (append_assoc x.literals y.literals z.literals)) (beside_twice x y zs)

map-append : (x : Clause) (ys zs : List Clause) → map (beside x) (ys ++ zs) ≡ map (beside x) ys ++ map (beside x) zs
map-append x [] zs = refl
map-append x (y ∷ ys) zs = ap (λ (cs : List Clause). beside x y ∷ cs) (map-append x ys zs)

join-beside : (x : Clause) (ys zs : List Clause) → join (map (beside x) ys) zs ≡ map (beside x) (join ys zs)
join-beside x [] zs = refl
join-beside x (y ∷ ys) zs =
    ap₂ (λ (a b : List Clause). a ++ b) (beside_twice x y zs) (join-beside x ys zs) ∙ sym (map-append x (map (beside y) zs) (join ys zs))

join-append : (xs ys zs : List Clause) → join (xs ++ ys) zs ≡ join xs zs ++ join ys zs
join-append xs ys zs = flat_map-append (λ x. map (beside x) zs) xs ys

pub join_assoc : (xs ys zs : List Clause) → join (join xs ys) zs ≡ join xs (join ys zs)
join_assoc [] ys zs = refl
join_assoc (x ∷ xs) ys zs =
    join-append (map (beside x) ys) (join xs ys) zs ∙ ap₂ (λ (a b : List Clause). a ++ b) (join-beside x ys zs) (join_assoc xs ys zs)

pub length-join : (xs ys : List Clause) → length (join xs ys) ≡ length xs * length ys
length-join [] ys = (let e : 0 * length ys ≡ 0 = grind arith in sym e)
length-join (x ∷ xs) ys =
    length-append (map (beside x) ys) (join xs ys) ∙ (let e = length-join xs ys in let f : length (map (beside x) ys) ≡ length ys = length-map ys (beside x) in grind (arith, e, f))

-- the clauses of an implication and of an equivalence
pub implication_is : (p q : Proposition) (negated : Bool)
    → clauses_of (implication p q) negated ≡ (if negated then clauses_of p (not negated) ++ clauses_of q negated else join (clauses_of p (not negated)) (clauses_of q negated))
implication_is p q true = ap (λ (cs : List Clause). clauses_of p false ++ cs) (append-nil (clauses_of q true))
implication_is p q false = ap (λ (cs : List Clause). join (clauses_of p true) cs) (join-unit_right (clauses_of q false))

pub equivalence_is : (p q : Proposition) (negated : Bool)
    → clauses_of (equivalence p q) negated ≡ (if not negated then clauses_of (implication p q) negated ++ clauses_of (implication q p) negated else join (clauses_of (implication p q) negated) (clauses_of (implication q p) negated))
equivalence_is p q true = ap (λ (cs : List Clause). join (clauses_of (implication p q) true) cs) (join-unit_right (clauses_of (implication q p) true))
equivalence_is p q false = ap (λ (cs : List Clause). clauses_of (implication p q) false ++ cs) (append-nil (clauses_of (implication q p) false))
