-- At whole values the clauses of a formula are satisfied exactly where the formula holds.
use Rattle.std.proofs.Common.{◌≡◌, ◌∙◌, ap, ap₂, refl, Bool, true, false, not, ◌&&◌, ◌||◌, List, [], ◌∷◌, ◌++◌, map}
use Rattle.std.specs.Prelude.{pos, ◌<ℤ◌, if◌then◌else◌}
use Rattle.std.proofs.lemmas.List.Folds.{list_all-append, list_any-append}
use Rattle.sm_kinds.specs.declared.literal.Literal.{Literal}
use Rattle.sm_kinds.specs.declared.logic.Clause.{Clause}
use Rattle.sm_kinds.specs.Points.{Point}
use Rattle.sm_kinds.specs.Literals.{is_true}
use Rattle.sm_kinds.specs.Logic.{has_true, satisfies_each}
use Rattle.sm_kinds.specs.Points.{IsWhole}
use Rattle.sm_clausify.specs.Propositions.{Proposition, literal, negation, conjunction, disjunction, Propositions, no_parts, part, EachLiteralOfAll}
use Rattle.sm_clausify.specs.Clauses.{signed, beside, join, joined, in_turn, clauses_of}
use Rattle.sm_clausify.specs.Truth.{holds, all_hold, any_holds, IsWholeOn}
use Rattle.sm_clausify.proofs.Signs.{complement_is}

module _ (a : Point) where
  append_satisfied : (xs ys : List Clause) → satisfies_each a (xs ++ ys) ≡ (satisfies_each a xs && satisfies_each a ys)
  append_satisfied xs ys = list_all-append (λ (c : Clause). has_true a c.literals) xs ys

  or_spread : (x y s t : Bool) → t ≡ (x || s) → ((x || y) && t) ≡ (x || (y && s))
  or_spread true y s t e = e
  or_spread false y s t e = ap (λ (b : Bool). y && b) e

  beside_satisfied : (x : Clause) (ys : List Clause) → satisfies_each a (map (beside x) ys) ≡ (has_true a x.literals || satisfies_each a ys)
  beside_satisfied x [] = to_true (has_true a x.literals)
    where
      to_true : (b : Bool) → true ≡ (b || true)
      to_true true = refl
      to_true false = refl
  beside_satisfied x (y ∷ ys) =
      ap (λ (b : Bool). b && satisfies_each a (map (beside x) ys)) (list_any-append (is_true a) x.literals y.literals)
      ∙ or_spread (has_true a x.literals) (has_true a y.literals) (satisfies_each a ys) (satisfies_each a (map (beside x) ys)) (beside_satisfied x ys)

  or_gather : (x s t : Bool) → ((x || t) && (s || t)) ≡ ((x && s) || t)
  or_gather true true true = refl
  or_gather true true false = refl
  or_gather true false true = refl
  or_gather true false false = refl
  or_gather false true true = refl
  or_gather false true false = refl
  or_gather false false true = refl
  or_gather false false false = refl

  join_satisfied : (xs ys : List Clause) → satisfies_each a (join xs ys) ≡ (satisfies_each a xs || satisfies_each a ys)
  join_satisfied [] ys = refl
  join_satisfied (x ∷ xs) ys =
      append_satisfied (map (beside x) ys) (join xs ys)
      ∙ ap₂ (λ (b c : Bool). b && c) (beside_satisfied x ys) (join_satisfied xs ys)
      ∙ or_gather (has_true a x.literals) (satisfies_each a xs) (satisfies_each a ys)

  -- a truth, or its negation
  abbrev said : Bool → Bool → Bool
  said negated b = if negated then not b else b

  not_and : (x y : Bool) → (not x || not y) ≡ not (x && y)
  not_and true y = refl
  not_and false y = refl

  not_or : (x y : Bool) → (not x && not y) ≡ not (x || y)
  not_or true y = refl
  not_or false y = refl

  said_not : (negated b : Bool) → said (not negated) b ≡ said negated (not b)
  said_not true true = refl
  said_not true false = refl
  said_not false b = refl

  unit_satisfied : (l : Literal) (b : Bool) → is_true a l ≡ b → satisfies_each a (record { literals = l ∷ [] } ∷ []) ≡ b
  unit_satisfied l true e = rw e refl
  unit_satisfied l false e = rw e refl

  module _ (positive : pos 0 <ℤ a.denominator) where
    mutual
      pub clauses_satisfied : (p : Proposition) (negated : Bool) → IsWholeOn p a → satisfies_each a (clauses_of p negated) ≡ said negated (holds p a)
      clauses_satisfied (literal l) true whole = unit_satisfied (signed true l) (not (is_true a l)) (complement_is a l positive whole)
      clauses_satisfied (literal l) false whole = unit_satisfied l (is_true a l) refl
      clauses_satisfied (negation p) negated whole = clauses_satisfied p (not negated) whole ∙ said_not negated (holds p a)
      clauses_satisfied (conjunction ps) true whole = none_satisfied ps whole
      clauses_satisfied (conjunction ps) false whole = all_satisfied ps whole
      clauses_satisfied (disjunction ps) true whole = each_refuted ps whole
      clauses_satisfied (disjunction ps) false whole = any_satisfied ps whole

      all_satisfied : (ps : Propositions) → EachLiteralOfAll (λ (l : Literal). IsWhole a l.var) ps → satisfies_each a (in_turn ps false) ≡ all_hold ps a
      all_satisfied no_parts whole = refl
      all_satisfied (part p ps) whole =
          append_satisfied (clauses_of p false) (in_turn ps false) ∙ ap₂ (λ (b c : Bool). b && c) (clauses_satisfied p false whole.0) (all_satisfied ps whole.1)

      any_satisfied : (ps : Propositions) → EachLiteralOfAll (λ (l : Literal). IsWhole a l.var) ps → satisfies_each a (joined ps false) ≡ any_holds ps a
      any_satisfied no_parts whole = refl
      any_satisfied (part p ps) whole =
          join_satisfied (clauses_of p false) (joined ps false) ∙ ap₂ (λ (b c : Bool). b || c) (clauses_satisfied p false whole.0) (any_satisfied ps whole.1)

      none_satisfied : (ps : Propositions) → EachLiteralOfAll (λ (l : Literal). IsWhole a l.var) ps → satisfies_each a (joined ps true) ≡ not (all_hold ps a)
      none_satisfied no_parts whole = refl
      none_satisfied (part p ps) whole =
          join_satisfied (clauses_of p true) (joined ps true)
          ∙ ap₂ (λ (b c : Bool). b || c) (clauses_satisfied p true whole.0) (none_satisfied ps whole.1)
          ∙ not_and (holds p a) (all_hold ps a)

      each_refuted : (ps : Propositions) → EachLiteralOfAll (λ (l : Literal). IsWhole a l.var) ps → satisfies_each a (in_turn ps true) ≡ not (any_holds ps a)
      each_refuted no_parts whole = refl
      each_refuted (part p ps) whole =
          append_satisfied (clauses_of p true) (in_turn ps true)
          ∙ ap₂ (λ (b c : Bool). b && c) (clauses_satisfied p true whole.0) (each_refuted ps whole.1)
          ∙ not_or (holds p a) (any_holds ps a)
