-- Parts that are tried one after another, and what they come to together.
use Rattle.std.proofs.Common.{◌≡◌, ◌∙◌, ap, sym, refl, ℕ, List, [], ◌∷◌, map}
use Rattle.std.specs.List.{flat_map}
use Rattle.sm_syntax.specs.declared.formula.Disj.{Disj, out-Disj}
use Rattle.sm_syntax.specs.declared.formula.Conj.{Conj, out-Conj}
use Rattle.sm_syntax.specs.declared.formula.Unit.{Unit as UnitNode}
use Rattle.sm_syntax.specs.Formulas.{Conjunction, Claim, conjunctions_of, disj_of, conj_of, unit_of}
use Rattle.sm_syntax.specs.Formulas as plain
use Rattle.sm_clausify.specs.declared.formula.Formula.{Formula}
use Rattle.sm_clausify.specs.declared.formula.Formula.TheVariants as f
use Rattle.sm_clausify.specs.Propositions.{Proposition, conjunction, disjunction, part, parts_of, meaning}
use Rattle.sm_meaning.specs.declared.refusal.ExpandRefusal.{ExpandRefusal}
use Rattle.sm_meaning.specs.Trials.{Trial, ◌▸◌, reached, IsStopped, each_tried}
use Rattle.sm_meaning.specs.Scopes.{Scope, Tuple}
use Rattle.sm_meaning.specs.Formulas.{any_of, all_of, alternatives_of, more_alternatives, claims_of, more_claims, claim_of, alternatives_tried, more_alternatives_tried, claims_tried, more_claims_tried, claim_tried}
use Rattle.sm_meaning.proofs.Steps.{stopped_same}
use Rattle.sm_parts.proofs.Eaches.{Left, left_stops, left_ends}
use Rattle.sm_statements.proofs.Trees.{disj_is, conj_is, or_means, and_means}

-- ---- conjunctions of which one holds

module _ (s : Scope) (b : Tuple) where
  abbrev pub alternative_tried : Conjunction → Trial
  alternative_tried c = claims_tried c s b

  abbrev pub alternative_made : Conjunction → List Proposition
  alternative_made c = claims_of c s b ∷ []

  more_tried : (cs : List Conjunction) → more_alternatives_tried (conjunctions_of cs) s b ≡ each_tried alternative_tried cs
  more_tried [] = refl
  more_tried (c ∷ cs) = ap (λ (t : Trial). claims_tried c s b ▸ t) (more_tried cs)

  more_made : (cs : List Conjunction) → more_alternatives (conjunctions_of cs) s b ≡ parts_of (flat_map alternative_made cs)
  more_made [] = refl
  more_made (c ∷ cs) = ap (part (claims_of c s b)) (more_made cs)

  any_made : (c : Conjunction) (cs : List Conj) → (cs ≡ [] → ⊥)
      → any_of (claims_of c s b) (more_alternatives (conjunctions_of (map conj_of cs)) s b) ≡ disjunction (parts_of (flat_map alternative_made (c ∷ map conj_of cs)))
  any_made c [] some = absurd (some refl)
  any_made c (d ∷ ds) some = ap (λ ps. disjunction (part (claims_of c s b) ps)) (more_made (map conj_of (d ∷ ds)))

  module _ (x : Disj) where
    alternatives_are : alternatives_tried (disj_of x) s b ≡ each_tried alternative_tried (map conj_of ((out-Disj x).first ∷ (out-Disj x).more))
    alternatives_are = ap (λ d. alternatives_tried d s b) (disj_is x) ∙ ap (λ (t : Trial). claims_tried (conj_of (out-Disj x).first) s b ▸ t) (more_tried (map conj_of (out-Disj x).more))

    pub alternative_stops : (e : ExpandRefusal) (start : ℕ) (y : Conj) (rest : List Conj) (now : ℕ) (made : List Proposition)
        → Left alternative_tried alternative_made (map conj_of ((out-Disj x).first ∷ (out-Disj x).more)) start [] (map conj_of (y ∷ rest)) now made
        → IsStopped e (claims_tried (conj_of y) s b now) → IsStopped e (alternatives_tried (disj_of x) s b start)
    alternative_stops e start y rest now made left stop = stopped_same e _ _ (ap (λ (t : Trial). t start) (sym alternatives_are))
        (left_stops e alternative_tried alternative_made (map conj_of ((out-Disj x).first ∷ (out-Disj x).more)) start [] (conj_of y) (map conj_of rest) now made left stop)

    pub alternatives_end : ((out-Disj x).more ≡ [] → ⊥) → (start now : ℕ) (parts : List Formula)
        → Left alternative_tried alternative_made (map conj_of ((out-Disj x).first ∷ (out-Disj x).more)) start [] [] now (map meaning parts)
        → (alternatives_tried (disj_of x) s b start ≡ reached now) × (alternatives_of (disj_of x) s b ≡ meaning (f.Or parts))
    alternatives_end some start now parts left =
        let ends = left_ends alternative_tried alternative_made (map conj_of ((out-Disj x).first ∷ (out-Disj x).more)) start [] now (map meaning parts) left in (
          ap (λ (t : Trial). t start) alternatives_are ∙ ends.0,
          ap (λ d. alternatives_of d s b) (disj_is x) ∙ any_made (conj_of (out-Disj x).first) (out-Disj x).more some ∙ ap (λ ps. disjunction (parts_of ps)) (sym ends.1) ∙ sym (or_means parts),
        )

-- ---- claims that all hold

module _ (s : Scope) (b : Tuple) where
  abbrev pub one_tried : Claim → Trial
  one_tried c = claim_tried c s b

  abbrev pub one_made : Claim → List Proposition
  one_made c = claim_of c s b ∷ []

  rest_tried : (cs : List Claim) → more_claims_tried (plain.claims_of cs) s b ≡ each_tried one_tried cs
  rest_tried [] = refl
  rest_tried (c ∷ cs) = ap (λ (t : Trial). claim_tried c s b ▸ t) (rest_tried cs)

  rest_made : (cs : List Claim) → more_claims (plain.claims_of cs) s b ≡ parts_of (flat_map one_made cs)
  rest_made [] = refl
  rest_made (c ∷ cs) = ap (part (claim_of c s b)) (rest_made cs)

  all_made : (c : Claim) (cs : List UnitNode) → (cs ≡ [] → ⊥)
      → all_of (claim_of c s b) (more_claims (plain.claims_of (map unit_of cs)) s b) ≡ conjunction (parts_of (flat_map one_made (c ∷ map unit_of cs)))
  all_made c [] some = absurd (some refl)
  all_made c (d ∷ ds) some = ap (λ ps. conjunction (part (claim_of c s b) ps)) (rest_made (map unit_of (d ∷ ds)))

  module _ (x : Conj) where
    claims_are : claims_tried (conj_of x) s b ≡ each_tried one_tried (map unit_of ((out-Conj x).first ∷ (out-Conj x).more))
    claims_are = ap (λ d. claims_tried d s b) (conj_is x) ∙ ap (λ (t : Trial). claim_tried (unit_of (out-Conj x).first) s b ▸ t) (rest_tried (map unit_of (out-Conj x).more))

    pub claim_stops : (e : ExpandRefusal) (start : ℕ) (y : UnitNode) (rest : List UnitNode) (now : ℕ) (made : List Proposition)
        → Left one_tried one_made (map unit_of ((out-Conj x).first ∷ (out-Conj x).more)) start [] (map unit_of (y ∷ rest)) now made
        → IsStopped e (claim_tried (unit_of y) s b now) → IsStopped e (claims_tried (conj_of x) s b start)
    claim_stops e start y rest now made left stop = stopped_same e _ _ (ap (λ (t : Trial). t start) (sym claims_are))
        (left_stops e one_tried one_made (map unit_of ((out-Conj x).first ∷ (out-Conj x).more)) start [] (unit_of y) (map unit_of rest) now made left stop)

    pub claims_end : ((out-Conj x).more ≡ [] → ⊥) → (start now : ℕ) (parts : List Formula)
        → Left one_tried one_made (map unit_of ((out-Conj x).first ∷ (out-Conj x).more)) start [] [] now (map meaning parts)
        → (claims_tried (conj_of x) s b start ≡ reached now) × (claims_of (conj_of x) s b ≡ meaning (f.And parts))
    claims_end some start now parts left =
        let ends = left_ends one_tried one_made (map unit_of ((out-Conj x).first ∷ (out-Conj x).more)) start [] now (map meaning parts) left in (
          ap (λ (t : Trial). t start) claims_are ∙ ends.0,
          ap (λ d. claims_of d s b) (conj_is x) ∙ all_made (unit_of (out-Conj x).first) (out-Conj x).more some ∙ ap (λ ps. conjunction (parts_of ps)) (sym ends.1) ∙ sym (and_means parts),
        )
