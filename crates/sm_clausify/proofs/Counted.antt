-- The tally of a formula counts its clauses.
use Rattle.std.proofs.Common.{◌≡◌, ◌∙◌, ap, ap₂, sym, refl, subst, arith, ℕ, ◌<◌, ◌≤◌, length, Bool, true, false, List, [], ◌∷◌, map}
use Rattle.std.specs.Prelude.{if◌then◌else◌, min}
use Rattle.sm_clausify.specs.declared.counts.Counts.{Counts}
use Rattle.sm_clausify.specs.declared.formula.Formula.{Formula, fold-roll-Formula, ind-Formula, map-Formula}
use Rattle.sm_clausify.specs.declared.formula.Formula.TheOpen.{Formula-F}
use Rattle.sm_clausify.specs.declared.tally.Tally.{Tally}
use Rattle.sm_clausify.specs.Propositions.{Proposition, meaning, meaning_step}
use Rattle.sm_clausify.specs.Clauses.{clauses_of}
use Rattle.sm_clausify.specs.Counting.{counts_of, literal_counts, flipped_counts, all_counts, any_counts, implied_counts, equivalent_counts, most}
use Rattle.sm_kinds.specs.Limits.{most_clauses}
use Rattle.sm_clausify.specs.Tallies.{counts_in, parts_in, tally_step, tally_of}
use Rattle.sm_clausify.proofs.Chains.{counts_in-tally_with}
use Rattle.sm_clausify.proofs.Counting.{counts_of-conjunction, counts_of-disjunction, implication_counts, equivalence_counts, none_counted}

abbrev IsCounted : Formula → Type 0
IsCounted f = counts_in (tally_of f) ≡ counts_of (meaning f)

-- y is a layer with a proof beside each part
abbrev Layer : Type 0
Layer = Formula-F ((f : Formula) × IsCounted f)

each_counted : (es : List ((f : Formula) × IsCounted f)) → map counts_in (map tally_of (map (λ e. e.0) es)) ≡ map counts_of (map meaning (map (λ e. e.0) es))
each_counted [] = refl
each_counted (e ∷ es) = ap₂ (λ (c : Counts) (cs : List Counts). c ∷ cs) e.1 (each_counted es)

abbrev Part : Type 0
Part = (f : Formula) × IsCounted f

layer : (y : Layer) → counts_in (tally_step (map-Formula Formula Tally tally_of (map-Formula Part Formula (λ e. e.0) y))) ≡ counts_of (meaning_step (map-Formula Formula Proposition meaning (map-Formula Part Formula (λ e. e.0) y)))
layer (Formula-F.Lit l) = counts_in-tally_with literal_counts []
layer (Formula-F.Not e) = counts_in-tally_with (flipped_counts (counts_in (tally_of e.0))) (parts_in (tally_of e.0)) ∙ ap flipped_counts e.1
layer (Formula-F.And es) =
    counts_in-tally_with (all_counts (map counts_in (map tally_of (map (λ e. e.0) es)))) (map tally_of (map (λ e. e.0) es))
    ∙ ap all_counts (each_counted es) ∙ sym (counts_of-conjunction (map meaning (map (λ e. e.0) es)))
layer (Formula-F.Or es) =
    counts_in-tally_with (any_counts (map counts_in (map tally_of (map (λ e. e.0) es)))) (map tally_of (map (λ e. e.0) es))
    ∙ ap any_counts (each_counted es) ∙ sym (counts_of-disjunction (map meaning (map (λ e. e.0) es)))
layer (Formula-F.Implies d e) =
    counts_in-tally_with (implied_counts (counts_in (tally_of d.0)) (counts_in (tally_of e.0))) (tally_of d.0 ∷ tally_of e.0 ∷ [])
    ∙ ap₂ implied_counts d.1 e.1 ∙ implication_counts (meaning d.0) (meaning e.0)
layer (Formula-F.Iff d e) =
    counts_in-tally_with (equivalent_counts (counts_in (tally_of d.0)) (counts_in (tally_of e.0))) (tally_of d.0 ∷ tally_of e.0 ∷ [])
    ∙ ap₂ equivalent_counts d.1 e.1 ∙ equivalence_counts (meaning d.0) (meaning e.0)

pub tally_counts : (f : Formula) → counts_in (tally_of f) ≡ counts_of (meaning f)
tally_counts = ind-Formula IsCounted (λ x y is.
    ap counts_in (fold-roll-Formula Tally tally_step x)
    ∙ subst (λ (z : Formula-F Formula). counts_in (tally_step (map-Formula Formula Tally tally_of z)) ≡ counts_of (meaning_step (map-Formula Formula Proposition meaning z))) is (layer y)
    ∙ ap counts_of (sym (fold-roll-Formula Proposition meaning_step x)))

-- the count of a formula, or of its negation
abbrev pub count_at : Counts → Bool → ℕ
count_at c negated = if negated then c.negated else c.plain

pub none_at : (p : Proposition) (negated : Bool) → count_at (counts_of p) negated ≡ 0 → clauses_of p negated ≡ []
none_at p true h = none_counted (clauses_of p true) h
none_at p false h = none_counted (clauses_of p false) h

-- what is counted as none has none
pub none_tallied : (f : Formula) (t : Tally) (negated : Bool) → t ≡ tally_of f → count_at (counts_in t) negated ≡ 0 → clauses_of (meaning f) negated ≡ []
none_tallied f t negated is none = none_at (meaning f) negated (ap (λ (c : Counts). count_at c negated) (sym (ap counts_in is ∙ tally_counts f)) ∙ none)

-- by the count that the tally tells, a formula has few clauses, or that many
pub few_tallied : (f : Formula) (t : Tally) (n : ℕ) → t ≡ tally_of f → n ≡ (counts_in t).plain → n ≤ most_clauses → length (clauses_of (meaning f) false) ≤ most_clauses
few_tallied f t n is told few =
    let same = told ∙ ap (λ (u : Tally). (counts_in u).plain) is ∙ ap (λ (c : Counts). c.plain) (tally_counts f) in
    omega (arith, same, few)

pub many_tallied : (f : Formula) (t : Tally) (n m : ℕ) → t ≡ tally_of f → n ≡ (counts_in t).plain → most_clauses < n → n ≡ m
    → (most_clauses < length (clauses_of (meaning f) false)) × (m ≡ min (length (clauses_of (meaning f) false)) most)
many_tallied f t n m is told many says =
    let same = told ∙ ap (λ (u : Tally). (counts_in u).plain) is ∙ ap (λ (c : Counts). c.plain) (tally_counts f) in
    (omega (arith, same, many), sym says ∙ same)
