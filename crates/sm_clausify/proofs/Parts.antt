-- The clauses of a formula, part by part.
use Rattle.std.proofs.Common.{◌≡◌, ◌∙◌, ap, sym, refl, arith, subst, ℕ, zero, suc, ◌+◌, ◌<◌, Bool, true, false, not, nat_lt, List, [], ◌∷◌, ◌++◌, length, map, drop, get_or, add-one, drop-cons, ◌≤◌}
use Rattle.std.proofs.lemmas.List.{drop_all}
use Rattle.std.specs.Prelude.{if◌then◌else◌}
use Rattle.sm_kinds.specs.declared.literal.Literal.{Literal}
use Rattle.sm_kinds.specs.declared.logic.Clause.{Clause}
use Rattle.sm_clausify.specs.declared.formula.Formula.{Formula}
use Rattle.sm_clausify.specs.declared.counts.Counts.{Counts}
use Rattle.sm_clausify.specs.Propositions.{Proposition, implication, equivalence, meaning, meanings, EachLiteral, EachLiteralOfAll}
use Rattle.sm_clausify.specs.Clauses.{join, joined, clauses_of}
use Rattle.sm_clausify.specs.Counting.{counts_of, implied_counts}
use Rattle.sm_clausify.specs.Tallies.{tally_of}
use Rattle.sm_clausify.specs.declared.tally.Tally.{Tally}
use Rattle.sm_clausify.proofs.Joins.{join_assoc, join-unit_right, implication_is, equivalence_is}
use Rattle.sm_clausify.proofs.Counting.{implication_counts}
use Rattle.sm_clausify.proofs.Counted.{count_at, none_at}

-- what holds of each literal of the parts holds of each literal of one of them
pub each_at : (P : Literal → Type 0) (fs : List Formula) (i : ℕ) (f : Formula) → i < length fs → f ≡ get_or fs i f → EachLiteralOfAll P (meanings fs) → EachLiteral P (meaning f)
each_at P [] i f lt is h = absurd (omega arith)
each_at P (g ∷ gs) zero f lt is h = subst (λ (x : Formula). EachLiteral P (meaning x)) (sym is) h.0
each_at P (g ∷ gs) (suc i) f lt is h = each_at P gs i f (omega arith) is h.1

-- one part more of a join
pub join_goes : (fs : List Formula) (i : ℕ) (f : Formula) (negated : Bool) (clauses new whole : List Clause) → i < length fs → f ≡ get_or fs i f
    → new ≡ join clauses (clauses_of (meaning f) negated) → join clauses (joined (meanings (drop i fs)) negated) ≡ whole
    → join new (joined (meanings (drop (i + 1) fs)) negated) ≡ whole
join_goes fs i f negated clauses new whole lt is is_new invariant =
    let split : drop i fs ≡ f ∷ drop (i + 1) fs = rw add-one (drop-cons fs i f lt ∙ ap (λ (g : Formula). g ∷ drop (suc i) fs) (sym is)) in
    ap (λ (cs : List Clause). join cs (joined (meanings (drop (i + 1) fs)) negated)) is_new
    ∙ join_assoc clauses (clauses_of (meaning f) negated) (joined (meanings (drop (i + 1) fs)) negated)
    ∙ ap (λ (gs : List Formula). join clauses (joined (meanings gs) negated)) (sym split) ∙ invariant

pub join_ends : (fs : List Formula) (i : ℕ) (negated : Bool) (clauses whole : List Clause) → length fs ≤ i
    → join clauses (joined (meanings (drop i fs)) negated) ≡ whole → clauses ≡ whole
join_ends fs i negated clauses whole past invariant =
    sym (join-unit_right clauses) ∙ ap (λ (gs : List Formula). join clauses (joined (meanings gs) negated)) (sym (drop_all i fs past)) ∙ invariant

-- the tally of one of the parts
pub tally_at : (fs : List Formula) (ts : List Tally) (i : ℕ) (f : Formula) (t : Tally) → i < length fs → f ≡ get_or fs i f → t ≡ get_or ts i t → ts ≡ map tally_of fs → t ≡ tally_of f
tally_at fs ts i f t lt is at same = within fs i lt is (at ∙ ap (λ (us : List Tally). get_or us i t) same)
  where
    within : (gs : List Formula) (k : ℕ) → k < length gs → f ≡ get_or gs k f → t ≡ get_or (map tally_of gs) k t → t ≡ tally_of f
    within [] k below here there = absurd (omega arith)
    within (g ∷ gs) zero below here there = there ∙ ap tally_of (sym here)
    within (g ∷ gs) (suc k) below here there = within gs k (omega arith) here there

-- half of an equivalence, built where it has clauses
of_nothing : (negated : Bool) → (if negated then [] ++ [] else join [] []) ≡ []
of_nothing true = refl
of_nothing false = refl

pub half_is : (p q : Proposition) (negated needed : Bool) (a b half : List Clause)
    → needed ≡ nat_lt 0 (count_at (implied_counts (counts_of p) (counts_of q)) negated)
    → a ≡ (if needed then clauses_of p (not negated) else []) → b ≡ (if needed then clauses_of q negated else [])
    → half ≡ (if negated then a ++ b else join a b) → half ≡ clauses_of (implication p q) negated
half_is p q negated true a b half why is_a is_b is = is ∙ rw (is_a, is_b) (sym (implication_is p q negated))
half_is p q negated false a b half why is_a is_b is =
    is ∙ rw (is_a, is_b) (of_nothing negated)
    ∙ sym (none_at (implication p q) negated (none (count_at (counts_of (implication p q)) negated) (ap (λ (c : Counts). nat_lt 0 (count_at c negated)) (sym (implication_counts p q)) ∙ sym why)))
  where
    none : (n : ℕ) → nat_lt 0 n ≡ false → n ≡ 0
    none n h = grind arith

pub halves_are : (p q : Proposition) (negated : Bool) (forth back whole : List Clause)
    → forth ≡ clauses_of (implication p q) negated → back ≡ clauses_of (implication q p) negated
    → whole ≡ (if not negated then forth ++ back else join forth back) → whole ≡ clauses_of (equivalence p q) negated
halves_are p q negated forth back whole f b is = is ∙ rw (f, b) (sym (equivalence_is p q negated))
