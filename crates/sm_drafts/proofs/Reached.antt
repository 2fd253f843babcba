-- What passes its tests is within their limits.
use Rattle.std.proofs.Common.{◌≡◌, ◌∙◌, refl, ℕ, ◌+◌, ◌≤◌, arith, Bool, true, false, [], ◌∷◌, ℤ, if◌then◌else◌}
use Rattle.std.specs.Prelude.{nat_lt, unsigned_abs, Some, None, option_map, Result, Ok, Err, OnOk}
use Rattle.std.proofs.lemmas.Grind.{common_steps}
use Rattle.sm_data.specs.declared.refusal.Counted.{Counted}
use Rattle.sm_kinds.specs.Limits.{greatest_number}
use Rattle.sm_clausify.specs.Propositions.{Proposition, literal, negation, conjunction, disjunction, Propositions, no_parts, part, EachLiteral, EachLiteralOfAll, HasSmallBound}
use Rattle.sm_meaning.specs.declared.refusal.ExpandRefusal.{ExpandRefusal}
use Rattle.sm_meaning.specs.Refusals.{over, number_over}
use Rattle.sm_meaning.specs.Trials.{Trial, Outcome, reached, stopped, resumed, tried, ◌▸◌, nothing_tried}
use Rattle.sm_meaning.specs.Limits.{count_tried, literal_bounds, all_literal_bounds}
use Rattle.sm_drafts.specs.Drafts.{Passes, bound_tried, bounds_tried}
use Rattle.sm_drafts.proofs.Parts.{each-append}

-- what is gone through in two parts is gone through in each
pub both_reached : (a b : Trial) (n m : ℕ) → (a ▸ b) n ≡ reached m → (k : ℕ) × (a n ≡ reached k) × (b k ≡ reached m)
both_reached a b n m h = by_first (a n) refl h
  where
    by_first : (o : Outcome) → a n ≡ o → resumed o b ≡ reached m → (k : ℕ) × (a n ≡ reached k) × (b k ≡ reached m)
    by_first (stopped r) e g = absurd (cc)
    by_first (reached k) e g = (k, e, g)

pub number_small : (what : Counted) (bound : ℕ) (z : ℤ) (n m : ℕ) → tried (number_over what bound z) n ≡ reached m → unsigned_abs z ≤ bound
number_small what bound z n m h = by_case (nat_lt bound (unsigned_abs z)) refl h
  where
    by_case : (b : Bool) → nat_lt bound (unsigned_abs z) ≡ b → tried (option_map (over what bound) (if b then Some (unsigned_abs z) else None)) n ≡ reached m → unsigned_abs z ≤ bound
    by_case true e g = absurd (cc)
    by_case false e g = grind (arith, common_steps)

pub count_small : (what : Counted) (bound count n m : ℕ) → count_tried what bound count n ≡ reached m → count ≤ bound
count_small what bound count n m h = by_case (nat_lt bound count) refl h
  where
    by_case : (b : Bool) → nat_lt bound count ≡ b → tried (if b then Some (over what bound (bound + 1)) else None) n ≡ reached m → count ≤ bound
    by_case true e g = absurd (cc)
    by_case false e g = grind (arith, common_steps)

bound_small : (z : ℤ) (n m : ℕ) → bounds_tried (z ∷ []) n ≡ reached m → unsigned_abs z ≤ greatest_number
bound_small z n m h =
    let split = both_reached (bound_tried z) nothing_tried n m h in
    number_small _ greatest_number z n split.0 split.1

mutual
  literals_small : (q : Proposition) (n m : ℕ) → bounds_tried (literal_bounds q) n ≡ reached m → EachLiteral HasSmallBound q
  literals_small (literal l) n m h = omega (arith, bound_small l.bound n m h)
  literals_small (negation q) n m h = literals_small q n m h
  literals_small (conjunction qs) n m h = parts_small qs n m h
  literals_small (disjunction qs) n m h = parts_small qs n m h

  parts_small : (qs : Propositions) (n m : ℕ) → bounds_tried (all_literal_bounds qs) n ≡ reached m → EachLiteralOfAll HasSmallBound qs
  parts_small no_parts n m h = tt
  parts_small (part q qs) n m h =
      let split = both_reached (bounds_tried (literal_bounds q)) (bounds_tried (all_literal_bounds qs)) n m (each-append bound_tried (literal_bounds q) (all_literal_bounds qs) n ∙ h) in
      (literals_small q n split.0 split.1, parts_small qs split.0 m split.2)

-- where the bounds of a formula pass, each literal has a complement
pub formula_small : (q : Proposition) (r : Result (Unit {0}) ExpandRefusal) → Passes (bounds_tried (literal_bounds q)) r → OnOk r (EachLiteral HasSmallBound q)
formula_small q (Ok u) h = literals_small q 0 0 (h 0).0
formula_small q (Err e) h = tt
