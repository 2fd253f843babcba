-- Counts of clauses, part by part.
use Rattle.std.proofs.Common.{◌≡◌, ◌∙◌, ap, ap₂, sym, refl, arith, ℕ, ◌+◌, ◌*◌, ◌≤◌, true, false, List, [], ◌∷◌, ◌++◌, length, map, length-append}
use Rattle.std.specs.Prelude.{min, fold}
use Rattle.sm_kinds.specs.declared.logic.Clause.{Clause}
use Rattle.sm_clausify.specs.declared.counts.Counts.{Counts}
use Rattle.sm_clausify.specs.Propositions.{Proposition, Propositions, part, conjunction, disjunction, implication, equivalence, parts_of}
use Rattle.sm_clausify.specs.Clauses.{join, joined, in_turn, clauses_of}
use Rattle.sm_clausify.specs.Counting.{counts_of, true_counts, false_counts, and_counts, or_counts, all_counts, any_counts, implied_counts, equivalent_counts, most}
use Rattle.sm_clausify.proofs.Joins.{length-join, implication_is, equivalence_is}
use Rattle.sm_clausify.proofs.Caps.{cap_sum, cap_product, sum_assoc, product_assoc}

abbrev capped : List Clause → ℕ
capped cs = min (length cs) most

abbrev pair : ℕ → ℕ → Counts
pair a b = record { plain = a; negated = b }

append_capped : (xs ys : List Clause) → capped (xs ++ ys) ≡ min (capped xs + capped ys) most
append_capped xs ys = ap (λ (n : ℕ). min n most) (length-append xs ys) ∙ cap_sum (length xs) (length ys) most

join_capped : (xs ys : List Clause) → capped (join xs ys) ≡ min (capped xs * capped ys) most
join_capped xs ys = ap (λ (n : ℕ). min n most) (length-join xs ys) ∙ cap_product (length xs) (length ys) most

pub conjunction_counts : (p : Proposition) (ps : Propositions) → counts_of (conjunction (part p ps)) ≡ and_counts (counts_of p) (counts_of (conjunction ps))
conjunction_counts p ps = ap₂ pair (append_capped (clauses_of p false) (in_turn ps false)) (join_capped (clauses_of p true) (joined ps true))

pub disjunction_counts : (p : Proposition) (ps : Propositions) → counts_of (disjunction (part p ps)) ≡ or_counts (counts_of p) (counts_of (disjunction ps))
disjunction_counts p ps = ap₂ pair (join_capped (clauses_of p false) (joined ps false)) (append_capped (clauses_of p true) (in_turn ps true))

pub implication_counts : (p q : Proposition) → implied_counts (counts_of p) (counts_of q) ≡ counts_of (implication p q)
implication_counts p q = sym (ap₂ pair
    (ap capped (implication_is p q false) ∙ join_capped (clauses_of p true) (clauses_of q false))
    (ap capped (implication_is p q true) ∙ append_capped (clauses_of p false) (clauses_of q true)))

pub equivalence_counts : (p q : Proposition) → equivalent_counts (counts_of p) (counts_of q) ≡ counts_of (equivalence p q)
equivalence_counts p q =
    ap₂ and_counts (implication_counts p q) (implication_counts q p)
    ∙ sym (ap₂ pair
    (ap capped (equivalence_is p q false) ∙ append_capped (clauses_of (implication p q) false) (clauses_of (implication q p) false))
    (ap capped (equivalence_is p q true) ∙ join_capped (clauses_of (implication p q) true) (clauses_of (implication q p) true)))

and_assoc : (a b c : Counts) → and_counts (and_counts a b) c ≡ and_counts a (and_counts b c)
and_assoc a b c = ap₂ pair (sum_assoc a.plain b.plain c.plain most) (product_assoc a.negated b.negated c.negated most)

or_assoc : (a b c : Counts) → or_counts (or_counts a b) c ≡ or_counts a (or_counts b c)
or_assoc a b c = ap₂ pair (product_assoc a.plain b.plain c.plain most) (sum_assoc a.negated b.negated c.negated most)

-- numbers that no count has to cut
abbrev IsTold : Counts → Type 0
IsTold c = (c.plain ≤ most) × (c.negated ≤ most)

-- counts of parts, after those that stand before
all_after : (c : Counts) (ps : List Proposition) → IsTold c → fold and_counts c (map counts_of ps) ≡ and_counts c (counts_of (conjunction (parts_of ps)))
all_after c [] told = sym (ap₂ pair (let e : min (c.plain + 0) most ≡ c.plain = omega (arith, told.0) in e) (let e : min (c.negated * 1) most ≡ c.negated = omega (arith, told.1) in e))
all_after c (p ∷ ps) told =
    all_after (and_counts c (counts_of p)) ps (omega arith, omega arith)
    ∙ and_assoc c (counts_of p) (counts_of (conjunction (parts_of ps)))
    ∙ ap (and_counts c) (sym (conjunction_counts p (parts_of ps)))

any_after : (c : Counts) (ps : List Proposition) → IsTold c → fold or_counts c (map counts_of ps) ≡ or_counts c (counts_of (disjunction (parts_of ps)))
any_after c [] told = sym (ap₂ pair (let e : min (c.plain * 1) most ≡ c.plain = omega (arith, told.0) in e) (let e : min (c.negated + 0) most ≡ c.negated = omega (arith, told.1) in e))
any_after c (p ∷ ps) told =
    any_after (or_counts c (counts_of p)) ps (omega arith, omega arith)
    ∙ or_assoc c (counts_of p) (counts_of (disjunction (parts_of ps)))
    ∙ ap (or_counts c) (sym (disjunction_counts p (parts_of ps)))

below : (n : ℕ) → min (0 + min n most) most ≡ min n most
below n = omega arith

once : (n : ℕ) → min (1 * min n most) most ≡ min n most
once n = omega arith

pub counts_of-conjunction : (ps : List Proposition) → counts_of (conjunction (parts_of ps)) ≡ all_counts (map counts_of ps)
counts_of-conjunction ps =
    let whole = conjunction (parts_of ps) in
    sym (all_after true_counts ps (omega arith, omega arith) ∙ ap₂ pair (below (length (clauses_of whole false))) (once (length (clauses_of whole true))))

pub counts_of-disjunction : (ps : List Proposition) → counts_of (disjunction (parts_of ps)) ≡ any_counts (map counts_of ps)
counts_of-disjunction ps =
    let whole = disjunction (parts_of ps) in
    sym (any_after false_counts ps (omega arith, omega arith) ∙ ap₂ pair (once (length (clauses_of whole false))) (below (length (clauses_of whole true))))

-- where the count is 0 there is none
pub none_counted : (cs : List Clause) → capped cs ≡ 0 → cs ≡ []
none_counted [] h = refl
none_counted (c ∷ cs) h = absurd (omega arith)
